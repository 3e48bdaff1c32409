use Rattle.std.proofs.Common.{◌≡◌, drop}
use Rattle.shown_texts.specs.Stale.{rows_text}
use Rattle.shown_texts.proofs.stale.push_rows.Given as goal

-- those passed show no row
abbrev pub invariant-loop-place : goal.invariant-loop-place
invariant-loop-place l = (rows_text (drop l.place l.events) ≡ rows_text l.events) × (l.text ≡ l.fn.text)
