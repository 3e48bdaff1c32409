use Rattle.std.specs.String.{string_bytes}
use Rattle.spec_reader.specs.Whole.{spec_tree}
use Rattle.spec_reader.proofs.Verdict.{had_spec}
use Rattle.spec_reader.proofs.tree.SpecText.known.Goals as goal

pub returns : goal.returns
returns c = had_spec (string_bytes c.args.self.now.text) (spec_tree c.args.self.now) c.args.self.now.is_spec
