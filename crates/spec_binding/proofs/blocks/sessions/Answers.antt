use Rattle.spec_reader.specs.Views.{session_tree}
use Rattle.bound_specs.specs.Binding.{session}
use Rattle.statement_binding.proofs.EachLemmas.{each-starts}
use Rattle.spec_binding.proofs.blocks.sessions.Goals as goal

pub loop-text-init : goal.loop-text-init
loop-text-init c = rw c.new-all.ensures.items (each-starts session_tree (session c.args.tables.now) c.args.texts.now)
