use Rattle.std.proofs.Common.{◌≡◌, ◌++◌, take, map}
use Rattle.spec_reader.specs.Tree.{StepTree}
use Rattle.spec_reader.specs.Views.{step_tree}
use Rattle.file_blocks.specs.declared.blocks.Role.TheVariants.{Session}
use Rattle.file_blocks.specs.Blocks.{sent_in, sent_tree}
use Rattle.file_blocks.proofs.blocks.push_steps.Given as goal

abbrev pub invariant-loop-step : goal.invariant-loop-step
invariant-loop-step l = map sent_tree l.all.items
    ≡ map sent_tree l.fn.all.items ++ map (λ (t : StepTree). sent_in Session t.block) (map step_tree (take l.step-index l.steps))
