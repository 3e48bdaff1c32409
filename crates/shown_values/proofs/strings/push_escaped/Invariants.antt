use Rattle.std.specs.Prelude.{◌≡◌, ◌++◌, length}
use Rattle.shown_values.specs.Strings.{escaped}
use Rattle.shown_values.proofs.strings.push_escaped.Given as goal

-- the text up to what is left is pushed
abbrev pub invariant-loop-left : goal.invariant-loop-left
invariant-loop-left l = l.out.items ++ escaped l.left ≡ l.fn.out.items ++ escaped l.text

abbrev pub decreases-loop-left : goal.decreases-loop-left
decreases-loop-left l = length l.left
