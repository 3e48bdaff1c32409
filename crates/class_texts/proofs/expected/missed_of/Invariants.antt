use Rattle.std.proofs.Common.{◌≡◌, ◌+◌, ◌*◌, ◌^◌, ◌≤◌, drop}
use Rattle.class_texts.specs.Expected.{missed_from}
use Rattle.class_texts.proofs.expected.missed_of.Given as goal

-- the orders counted and those left
abbrev pub invariant-loop-place : goal.invariant-loop-place
invariant-loop-place l = record {
  left : l.missed + missed_from l.expected l.place (drop l.place l.rows) ≡ missed_from l.expected 0 l.rows;
  few : l.missed ≤ 2 ^ 64 * l.place;
}
