-- Orders by the names of their steps: the rank of an order, or what is wrong with one that has none.
use Rattle.std.specs.Prelude.{◌≡◌, ◌≢◌, ℕ, ◌<◌, List, [], length, get_or, map}
use Rattle.std.specs.List.{AllZip}
use Rattle.bound_specs.specs.Spec.{SpecFile, Step, no_step, ranks, line_of}
use Rattle.order_names.specs.declared.error.OrderError.{OrderError}
use Rattle.order_names.specs.declared.error.OrderError.TheVariants.{UnknownStep, Again, OutOfTurn, LeftOut, NoLine, NoMemory}

abbrev pub Name : Type 0
Name = List ℕ

abbrev pub name_of : SpecFile → ℕ → Name
name_of file k = get_or file.step_names k []

abbrev pub session_of : List Step → ℕ → ℕ
session_of steps k = (get_or steps k no_step).session

-- the step of this name
pub record IsStepNamed (file : SpecFile) (name : Name) (k : ℕ) : Type 0 where
  pub known : k < length file.run.steps
  pub named : name_of file k ≡ name

-- the names are those of the steps of this rank, in the order in which they are sent
abbrev pub HasOrder : SpecFile → ℕ → List Name → Type 0
HasOrder file rank names = AllZip (IsStepNamed file) names (line_of file.run rank)

-- the least rank of the order
pub record IsRankOf (file : SpecFile) (names : List Name) (rank : ℕ) : Type 0 where
  pub inside : rank < ranks file.run
  pub has : HasOrder file rank names
  pub least : (lower : ℕ) → lower < rank → HasOrder file lower names → ⊥

-- no rank is one of the order
abbrev pub HasNoRank : SpecFile → List Name → Type 0
HasNoRank file names = (rank : ℕ) → rank < ranks file.run → HasOrder file rank names → ⊥

-- ---- what is wrong with an order

-- the name is one of the first so many
abbrev pub StandsBefore : List Name → ℕ → Name → Type 0
StandsBefore names n name = (place : ℕ) × (place < n) × (get_or names place [] ≡ name)

-- each of the first so many names is that of a step
abbrev pub AreKnown : SpecFile → List Name → ℕ → Type 0
AreKnown file names n = (place : ℕ) → place < n → (k : ℕ) × IsStepNamed file (get_or names place []) k

-- at this place the step is sent in its turn: it was not sent before, and each earlier step of its session was
pub record IsInTurn (file : SpecFile) (names : List Name) (place k : ℕ) : Type 0 where
  pub step : IsStepNamed file (get_or names place []) k
  pub new : StandsBefore names place (name_of file k) → ⊥
  pub behind : (earlier : ℕ) → earlier < k → session_of file.run.steps earlier ≡ session_of file.run.steps k → StandsBefore names place (name_of file earlier)

-- so are the steps at the first so many places, each of which has one
abbrev pub AreInTurn : SpecFile → List Name → ℕ → Type 0
AreInTurn file names n = (place : ℕ) → place < n → (k : ℕ) × IsInTurn file names place k

-- the spec's orders are all that keep each session's steps in turn, and the names are those of steps, which are in turn before this place
pub record IsFirstWrong (file : SpecFile) (names : List Name) (place : ℕ) : Type 0 where
  pub words : file.run.lines ≡ []
  pub known : AreKnown file names (length names)
  pub inside : place < length names
  pub turns : AreInTurn file names place

-- what is wrong: the first name that no step has; where the spec has no permutation lines the first step that was sent before, or before which an
-- earlier one of its session was not, and where there is none a step that is left out; or that the order is none of the permutation lines
abbrev pub IsWrong : SpecFile → List Name → OrderError → Type 0
IsWrong file names (UnknownStep place) =
    (place < length names) × AreKnown file names place × ((k : ℕ) → IsStepNamed file (get_or names place []) k → ⊥)
IsWrong file names (Again place) = IsFirstWrong file names place × StandsBefore names place (get_or names place [])
IsWrong file names (OutOfTurn place due) =
    IsFirstWrong file names place
    × ((k : ℕ) × IsStepNamed file (get_or names place []) k × (due < k) × (session_of file.run.steps due ≡ session_of file.run.steps k)
    × (StandsBefore names place (name_of file due) → ⊥))
IsWrong file names (LeftOut due) =
    (file.run.lines ≡ []) × AreInTurn file names (length names) × (due < length file.run.steps)
    × (StandsBefore names (length names) (name_of file due) → ⊥)
IsWrong file names NoLine = (file.run.lines ≢ []) × AreKnown file names (length names)
IsWrong file names NoMemory = Unit {0}

-- why an order is given no rank: it has none, for what is wrong with it, or memory ran out
abbrev pub IsRefused : SpecFile → List Name → OrderError → Type 0
IsRefused file names error = IsWrong file names error × (error ≢ NoMemory → HasNoRank file names)
