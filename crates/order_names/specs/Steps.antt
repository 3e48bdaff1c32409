-- Orders by the numbers of their steps.
use Rattle.std.specs.Prelude.{◌≡◌, ℕ, ◌<◌, List, [], ◌∷◌, length, get_or, Option, Some, None}
use Rattle.bound_specs.specs.Spec.{Spec, Step, ranks, line_of}
use Rattle.bound_specs.specs.Walking.{steps_from}
use Rattle.order_names.specs.Orders.{session_of}
use Rattle.order_names.specs.declared.error.OrderError.{OrderError}
use Rattle.order_names.specs.declared.error.OrderError.TheVariants.{UnknownStep, Again, OutOfTurn, LeftOut, NoLine, NoMemory}

-- the least rank at which these steps are sent
pub record IsRankOfLine (run : Spec) (line : List ℕ) (rank : ℕ) : Type 0 where
  pub inside : rank < ranks run
  pub has : line_of run rank ≡ line
  pub least : (lower : ℕ) → lower < rank → line_of run lower ≡ line → ⊥

abbrev pub IsNoLine : Spec → List ℕ → Type 0
IsNoLine run line = (rank : ℕ) → rank < ranks run → line_of run rank ≡ line → ⊥

-- the step is one of the first so many
abbrev pub IsSent : List ℕ → ℕ → ℕ → Type 0
IsSent line n k = (place : ℕ) × (place < n) × (get_or line place 0 ≡ k)

-- at this place the step is sent in its turn
pub record IsStepInTurn (steps : List Step) (line : List ℕ) (place : ℕ) : Type 0 where
  pub new : IsSent line place (get_or line place 0) → ⊥
  pub behind : (earlier : ℕ) → earlier < get_or line place 0 → session_of steps earlier ≡ session_of steps (get_or line place 0) → IsSent line place earlier

-- so are those at the first so many places
abbrev pub AreStepsInTurn : List Step → List ℕ → ℕ → Type 0
AreStepsInTurn steps line n = (place : ℕ) → place < n → IsStepInTurn steps line place

-- what is wrong with a line of steps
abbrev pub IsWrongLine : List Step → List ℕ → OrderError → Type 0
IsWrongLine steps line (UnknownStep place) = ⊥
IsWrongLine steps line (Again place) =
    (place < length line) × AreStepsInTurn steps line place × IsSent line place (get_or line place 0)
IsWrongLine steps line (OutOfTurn place due) =
    (place < length line) × AreStepsInTurn steps line place × (due < get_or line place 0)
    × (session_of steps due ≡ session_of steps (get_or line place 0)) × (IsSent line place due → ⊥)
IsWrongLine steps line (LeftOut due) =
    AreStepsInTurn steps line (length line) × (due < length steps) × (IsSent line (length line) due → ⊥)
IsWrongLine steps line NoLine = ⊥
IsWrongLine steps line NoMemory = ⊥

-- ---- what the code finds

-- what is wrong where a step is to be sent at a place, and this one is due of its session
abbrev pub IsWrongAt : ℕ → ℕ → Option ℕ → Option OrderError → Type 0
IsWrongAt place step due None = due ≡ Some step
IsWrongAt place step due (Some (UnknownStep p)) = ⊥
IsWrongAt place step due (Some (Again p)) = (p ≡ place) × ((d : ℕ) → due ≡ Some d → step < d)
IsWrongAt place step due (Some (OutOfTurn p d)) = (p ≡ place) × (due ≡ Some d) × (d < step)
IsWrongAt place step due (Some (LeftOut d)) = ⊥
IsWrongAt place step due (Some NoLine) = ⊥
IsWrongAt place step due (Some NoMemory) = ⊥

-- a step of some session that is still to be sent, by the numbers from which on each session's steps are
abbrev pub IsLeftOut : Spec → List ℕ → Option ℕ → Type 0
IsLeftOut run next None = (session : ℕ) → session < run.sessions → steps_from session (get_or next session 0) run.steps ≡ []
IsLeftOut run next (Some due) =
    (session : ℕ) × (session < run.sessions) × ((more : List ℕ) × (steps_from session (get_or next session 0) run.steps ≡ due ∷ more))
