use Rattle.std.proofs.Common.{◌≡◌, ◌++◌, take, map}
use Rattle.spec_reader.specs.Views.{step_tree}
use Rattle.spec_texts.specs.OneLine.{one_line}
use Rattle.spec_texts.proofs.steps.push_lines.Given as goal

abbrev pub invariant-loop-step : goal.invariant-loop-step
invariant-loop-step l = l.lines.items ≡ l.fn.lines.items ++ map (λ t. one_line t.block.text) (map step_tree (take l.step-index l.steps))
