use Rattle.std.proofs.Common.{ℕ, ◌<◌, get_or, All, []}
use Rattle.machine_model.specs.Outcome.{IsToldOf}
use Rattle.book_format.proofs.reading.outcomes.is_outcome_of.Given as goal

abbrev pub invariant-loop-session : goal.invariant-loop-session
invariant-loop-session l = (i : ℕ) → i < l.session → All (IsToldOf l.spec.run.steps i) (get_or l.sessions i [])
