use Rattle.std.proofs.Common.{◌≡◌, ◌++◌, drop}
use Rattle.class_texts.specs.Counted.{in_threes}
use Rattle.class_texts.proofs.counted.put_in_threes.Given as goal

-- the digits put and those left
abbrev pub invariant-loop-place : goal.invariant-loop-place
invariant-loop-place l = l.line ++ in_threes (drop l.place l.digits) ≡ l.fn.line ++ in_threes l.digits
