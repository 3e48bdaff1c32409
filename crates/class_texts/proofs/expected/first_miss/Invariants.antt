use Rattle.std.proofs.Common.{◌≡◌, drop}
use Rattle.class_texts.specs.Expected.{first_miss}
use Rattle.class_texts.proofs.expected.first_miss.Given as goal

-- of those passed it is so
abbrev pub invariant-loop-place : goal.invariant-loop-place
invariant-loop-place l = first_miss l.expected l.place (drop l.place l.rows) ≡ first_miss l.expected 0 l.rows
