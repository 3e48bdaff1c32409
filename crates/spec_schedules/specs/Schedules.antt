-- Orders of a spec's steps: those that clients can send, and all permutations.
use Rattle.std.specs.Prelude.{◌≡◌, ℕ, ◌<◌, ◌≤◌, ◌⊎◌, ◌==◌, Bool, true, false, not, cond, All, List, [], ◌∷◌, length, get_or}
use mathlib.Core.List.{IsPrefix}
use Rattle.lock_queues.specs.Locks.{waits_now}
use Rattle.perm_ranks.specs.Words.{all_words, word_at}
use Rattle.bound_specs.specs.Spec.{Spec, Step, Queues, no_step, line, counts_of, queues_of}
use Rattle.machine_model.specs.World.{World, send, send_all}
use Rattle.spec_schedules.specs.declared.kind.Kind.{Kind}
use Rattle.spec_schedules.specs.declared.kind.Kind.TheVariants.{Schedules, Permutations}

-- the session that sends a step
abbrev pub session_of : List Step → ℕ → ℕ
session_of steps k = (get_or steps k no_step).session

-- the steps of one session among these
abbrev pub own_steps : List Step → ℕ → List ℕ → List ℕ
own_steps steps i [] = []
own_steps steps i (k ∷ ks) = cond (session_of steps k == i) (k ∷ own_steps steps i ks) (own_steps steps i ks)

-- whether a step of the session may come in this world: in a schedule where it does not wait, in a permutation always
abbrev pub may_come : Kind → World → ℕ → Bool
may_come Schedules w i = not (waits_now w.waits i)
may_come Permutations w i = true

-- each step may come where it does
abbrev pub EachMayCome : Kind → List Step → World → List ℕ → Type 0
EachMayCome kind steps w [] = Unit {0}
EachMayCome kind steps w (k ∷ ks) = (may_come kind w (session_of steps k) ≡ true) × EachMayCome kind steps (send steps w k) ks

-- the steps that `queues` has for each session are sent from the world on, those of a session in their order; and no further one may come
pub record IsOrder (kind : Kind) (steps : List Step) (queues : Queues) (w : World) (ks : List ℕ) : Type 0 where
  pub known : All (λ k. session_of steps k < length queues) ks
  pub in_turn : (i : ℕ) → i < length queues → IsPrefix (own_steps steps i ks) (get_or queues i [])
  pub each : EachMayCome kind steps w ks
  pub longest : (i : ℕ) → i < length queues → (own_steps steps i ks ≡ get_or queues i []) ⊎ (may_come kind (send_all steps w ks) i ≡ false)

-- the steps of a spec, each sent while its session does not wait, until each session is through or waits
abbrev pub IsSchedule : Spec → World → List ℕ → Type 0
IsSchedule run start ks = IsOrder Schedules run.steps (queues_of run) start ks

-- all steps of a spec, whoever waits
abbrev pub IsPermutation : Spec → World → List ℕ → Type 0
IsPermutation run start ks = IsOrder Permutations run.steps (queues_of run) start ks

-- no step is dropped since its session waits
abbrev pub NoneIsDropped : Spec → World → List ℕ → Type 0
NoneIsDropped run start ks = EachMayCome Schedules run.steps start ks

-- each session has sent all its steps
abbrev pub HasAllSteps : Spec → List ℕ → Type 0
HasAllSteps run ks = (i : ℕ) → i < length (queues_of run) → own_steps run.steps i ks ≡ get_or (queues_of run) i []

-- how many permutations there are, and the one of a rank: each letter of its word takes the next step of its session
abbrev pub permutations : Queues → ℕ
permutations queues = length (all_words (counts_of queues))

abbrev pub permutation_of : Queues → ℕ → List ℕ
permutation_of queues rank = line queues (word_at (counts_of queues) rank)

-- the rank of the least permutation that begins with these steps
pub record IsRank (queues : Queues) (ks : List ℕ) (rank : ℕ) : Type 0 where
  pub inside : rank < permutations queues
  pub begins : IsPrefix ks (permutation_of queues rank)
  pub least : (other : ℕ) → other < permutations queues → IsPrefix ks (permutation_of queues other) → rank ≤ other
