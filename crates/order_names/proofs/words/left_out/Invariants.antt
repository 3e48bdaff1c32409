use Rattle.std.proofs.Common.{◌≡◌, ◌<◌, ℕ, [], get_or}
use Rattle.bound_specs.specs.Walking.{steps_from}
use Rattle.order_names.proofs.words.left_out.Given as goal

-- the sessions before this one have sent all their steps
abbrev pub invariant-loop-session : goal.invariant-loop-session
invariant-loop-session l = (j : ℕ) → j < l.session → steps_from j (get_or l.next j 0) l.spec.run.steps ≡ []
