-- What is still to be sent, by the step number from which on each session's steps are.
use Rattle.std.specs.Prelude.{ℕ, zero, suc, List, [], ◌∷◌, drop, get_or}
use Rattle.bound_specs.specs.Spec.{Step, Queues, steps_of}

-- the numbers of the session's steps from one on
abbrev pub steps_from : ℕ → ℕ → List Step → List ℕ
steps_from i k steps = steps_of i k (drop k steps)

-- the queues of so many sessions from i on
abbrev pub queues_at : ℕ → ℕ → List ℕ → List Step → Queues
queues_at i zero next steps = []
queues_at i (suc n) next steps = steps_from i (get_or next i 0) steps ∷ queues_at (suc i) n next steps
