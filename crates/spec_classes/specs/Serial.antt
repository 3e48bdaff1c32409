-- What orders of sessions answer that run each session whole, and from where they were run. No public clause cites this module.
use Rattle.std.specs.Prelude.{◌≡◌, ◌⊎◌, ℕ, ◌<◌, ◌≤◌, false, List, [], ◌∷◌, Option, Some, get_or, slice_get}
use Rattle.std.specs.BTreeMap.{BTreeMap, get}
use Rattle.std.specs.Ordering.{nat_cmp}
use Rattle.lock_queues.specs.Reasons.{Among}
use Rattle.binding_model.specs.declared.tables.Table.{Table}
use Rattle.bound_specs.specs.Spec.{Spec, steps_of}
use Rattle.machine_model.specs.World.{World, send_all}
use Rattle.marked_worlds.specs.Worlds.{MarkedRunning}
use Rattle.order_classes.specs.Shows.{shows_in}
use Rattle.order_classes.specs.Letters.{Answers, answers_of, times}
use Rattle.spec_classes.specs.declared.answered.Answered.{Answered}

-- each of so many sessions is left once, and no other
pub record AreOnce (sessions : ℕ) (left : List ℕ) : Type 0 where
  pub each : (i : ℕ) → i < sessions → get_or left i 0 ≡ 1
  pub none : (i : ℕ) → sessions ≤ i → get_or left i 0 ≡ 0

-- an order has each session as often as it is left
abbrev pub IsOrderOf : List ℕ → List ℕ → Type 0
IsOrderOf left order = (i : ℕ) → times i order ≡ get_or left i 0

abbrev pub own_steps : Spec → ℕ → List ℕ
own_steps run i = steps_of i 0 run.steps

-- the world behind all steps of a session
abbrev pub whole : Spec → World → ℕ → World
whole run w i = send_all run.steps w (own_steps run i)

-- the world behind sessions that are run one behind the other
abbrev pub behind : Spec → World → List ℕ → World
behind run w [] = w
behind run w (i ∷ order) = behind run (whole run w i) order

-- what is answered in a world
abbrev pub IsAnswerIn : List Table → Spec → World → Answers → Type 0
IsAnswerIn tables run w a = a ≡ answers_of (shows_in tables run.sessions w)

-- by an order of the sessions that are left, run from there
abbrev pub IsAnswerFrom : List Table → List ℕ → Spec → World → Answers → Type 0
IsAnswerFrom tables left run w a = (order : List ℕ) × IsOrderOf left order × IsAnswerIn tables run (behind run w order) a

-- and by one behind a session
abbrev pub IsAnswerBehind : List Table → ℕ → List ℕ → Spec → World → Answers → Type 0
IsAnswerBehind tables i left run w = IsAnswerFrom tables left run (whole run w i)

-- orders can be run from here: where sessions are noted as left in a world, all answers of their orders from there are known
pub record IsReady (tables : List Table) (m : MarkedRunning) (answered : Answered) : Type 0 where
  pub whole : m.spent ≡ false
  pub walked : (n : ℕ) (left : List ℕ) → get nat_cmp answered.walked n ≡ Some left
      → (w : World) × (slice_get m.seen n ≡ Some w) × ((a : Answers) → IsAnswerFrom tables left m.file.run w a → Among a answered.answers)

-- the machine is where it was, and its worlds have their numbers; these answers are known, and no others that were not known before
pub record IsRun (tables : List Table) (IsSo : Spec → World → Answers → Type 0) (m : MarkedRunning) (old : Answered) (n : MarkedRunning) (new : Answered) : Type 0 where
  pub of_spec : n.file ≡ m.file
  pub world : n.world ≡ m.world
  pub marked : n.marked ≡ m.marked
  pub seen : (k : ℕ) (w : World) → slice_get m.seen k ≡ Some w → slice_get n.seen k ≡ Some w
  pub ready : IsReady tables n new
  pub kept : (a : Answers) → Among a old.answers → Among a new.answers
  pub all : (a : Answers) → IsSo m.file.run m.world a → Among a new.answers
  pub others : (a : Answers) → Among a new.answers → Among a old.answers ⊎ IsSo m.file.run m.world a

-- what is noted was noted before, or is this
abbrev pub IsNoted : Option ℕ → List ℕ → BTreeMap ℕ (List ℕ) → BTreeMap ℕ (List ℕ) → Type 0
IsNoted number left old new =
    (n : ℕ) (other : List ℕ) → get nat_cmp new n ≡ Some other → (get nat_cmp old n ≡ Some other) ⊎ ((number ≡ Some n) × (other ≡ left))
