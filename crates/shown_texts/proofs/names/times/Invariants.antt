use Rattle.std.proofs.Common.{◌≡◌, ◌≤◌, ◌+◌, drop}
use Rattle.shown_texts.specs.Names.{times}
use Rattle.shown_texts.proofs.names.times.Given as goal

-- those passed and those left
abbrev pub invariant-loop-other : goal.invariant-loop-other
invariant-loop-other l = record {
  bound : l.count ≤ l.other-index;
  so_far : l.count + times l.text (drop l.other-index l.texts) ≡ times l.text l.texts;
}
