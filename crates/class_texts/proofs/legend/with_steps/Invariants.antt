use Rattle.std.proofs.Common.{◌≡◌, drop}
use Rattle.class_texts.specs.Legend.{with_steps}
use Rattle.class_texts.proofs.legend.with_steps.Given as goal

-- the steps passed and those left
abbrev pub invariant-loop-place : goal.invariant-loop-place
invariant-loop-place l = with_steps l.told l.order l.place l.found (drop l.place l.order) ≡ with_steps l.told l.order 0 l.fn.firsts l.order
