use Rattle.std.proofs.Common.{ap, length, map, arith}
use Rattle.spec_reader.specs.Views.{session_tree}
use Rattle.spec_binding.proofs.FileLemmas.{length-step_names}
use Rattle.spec_binding.proofs.binding.given.Goals as goal

pub some_lines-requires-clause-few : goal.some_lines-requires-clause-few
some_lines-requires-clause-few c = omega (arith, ap length c.requires.names, length-step_names (map session_tree c.args.sessions.now), c.in-Some.ensures)
