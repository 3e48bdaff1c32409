use Rattle.std.proofs.Common.{◌≡◌, map, take}
use Rattle.class_commands.specs.Classing.{expectation_over}
use Rattle.class_commands.proofs.telling.expectations_over.Given as goal

-- what the expectations passed see
abbrev pub invariant-loop-expectation : goal.invariant-loop-expectation
invariant-loop-expectation l = l.expectations.items ≡ map (expectation_over l.rows) (take l.expectation-index l.asked)
