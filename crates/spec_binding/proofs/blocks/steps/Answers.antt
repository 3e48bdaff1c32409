use Rattle.spec_reader.specs.Views.{step_tree}
use Rattle.bound_specs.specs.Binding.{step}
use Rattle.statement_binding.proofs.EachLemmas.{each-starts}
use Rattle.spec_binding.proofs.blocks.steps.Goals as goal

pub loop-text-init : goal.loop-text-init
loop-text-init c = rw c.new-all.ensures.items (each-starts step_tree (step c.args.tables.now) c.args.texts.now)
