use Rattle.std.proofs.Common.{◌<◌, ℕ}
use Rattle.asked_classes.specs.Filters.{IsSessionNamed}
use Rattle.asked_classes.proofs.filters.session_named.Given as goal

-- none of the sessions before this one has the name
abbrev pub invariant-loop-session : goal.invariant-loop-session
invariant-loop-session l = (k : ℕ) → k < l.session → IsSessionNamed l.spec l.name k → ⊥
