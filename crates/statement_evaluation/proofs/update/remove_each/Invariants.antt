use Rattle.std.proofs.Common.{◌≡◌, map, take, None}
use Rattle.lock_modes.specs.RowPlace.{RowPlace}
use Rattle.lock_modes.specs.Rows.{Tuple}
use Rattle.statement_evaluation.proofs.update.remove_each.Given as goal

-- the first rows are gone
abbrev pub invariant-loop-entry : goal.invariant-loop-entry
invariant-loop-entry l = l.writes ≡ map (λ (e : RowPlace × Tuple). record { place = e.0; left = None }) (take l.entry-index l.found)
