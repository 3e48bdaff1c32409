use Rattle.std.proofs.Common.{◌≡◌, take}
use Rattle.statement_evaluation.specs.Effect.{projected}
use Rattle.statement_evaluation.proofs.select.shows_all.Given as goal

abbrev pub invariant-loop-place : goal.invariant-loop-place
invariant-loop-place l = projected (take l.place l.columns) l.row ≡ take l.place l.row
