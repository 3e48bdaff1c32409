-- The letters of a class, what is told as an answer, and the orders that run sessions one behind the other.
use Rattle.std.specs.Prelude.{◌≡◌, ◌≢◌, ◌↔◌, ℕ, ◌+◌, ◌<◌, ◌≤◌, ◌==◌, Bool, true, false, not, ◌||◌, cond, List, [], ◌∷◌, ◌++◌, map, get_or, replicate, Option, Some, None, option_map}
use Rattle.std.specs.List.{list_any}
use Rattle.perm_ranks.specs.Words.{Word, all_words}
use Rattle.events.specs.declared.event.Event.{Event}
use Rattle.events.specs.declared.event.Event.TheVariants.{Sent, Row as RowEvent, Rows, Inserted, Updated, Deleted, Began, Committed, RolledBack, Locked}
use Rattle.events.specs.declared.event.Event.TheVariants.{Set, Warned, Failed, Waiting, Resumed, Done, NotSent}
use Rattle.events.specs.declared.event.Fault.{Fault}
use Rattle.events.specs.declared.event.Fault.TheVariants.{Duplicate, OutOfRange, Deadlock, Aborted, Unavailable}
use Rattle.binding_model.specs.declared.tables.Table.{Table}
use Rattle.bound_specs.specs.Spec.{Spec, line, line_of, counts_of, queues_of}
use Rattle.lock_queues.specs.Reasons.{Among}
use Rattle.order_classes.specs.declared.shows.Rest.{Rest}
use Rattle.order_classes.specs.declared.shows.Rest.TheVariants.{HasEnded, IsOpen, HasFailed, StillWaits}
use Rattle.order_classes.specs.declared.shows.Shows.{Shows}
use Rattle.order_classes.specs.Shows.{shows_of_line, shows_at}

-- ---- events

abbrev pub is_wait : Event → Bool
is_wait Waiting = true
is_wait _ = false

abbrev pub is_unsent : Event → Bool
is_unsent (NotSent k) = true
is_unsent _ = false

abbrev pub is_deadlock : Event → Bool
is_deadlock (Failed Deadlock) = true
is_deadlock _ = false

-- an error of its own that is no deadlock: a key that is there already, a number out of range, or a lock that may not be had at once. What is told of each
-- statement behind an error in its block follows from that one, and is none of its own
abbrev pub is_other_fault : Fault → Bool
is_other_fault Duplicate = true
is_other_fault OutOfRange = true
is_other_fault Deadlock = false
is_other_fault Aborted = false
is_other_fault Unavailable = true

abbrev pub is_other_error : Event → Bool
is_other_error (Failed f) = is_other_fault f
is_other_error _ = false

-- rows, counts and errors
abbrev pub is_answer : Event → Bool
is_answer (Sent k) = false
is_answer (RowEvent r) = true
is_answer (Rows n) = true
is_answer (Inserted n) = true
is_answer (Updated n) = true
is_answer (Deleted n) = true
is_answer Began = false
is_answer Committed = false
is_answer RolledBack = false
is_answer Locked = false
is_answer Set = false
is_answer (Warned w) = false
is_answer (Failed f) = true
is_answer Waiting = false
is_answer Resumed = false
is_answer Done = false
is_answer (NotSent k) = false

-- ---- letters

-- some session is told such a thing
abbrev pub tells : (Event → Bool) → Shows → Bool
tells test s = list_any (list_any test) s.told

abbrev pub tells_to : ℕ → (Event → Bool) → Shows → Bool
tells_to i test s = list_any test (get_or s.told i [])

-- W: a session waits
abbrev pub letter_w : Shows → Bool
letter_w = tells is_wait

-- D: a session loses a deadlock
abbrev pub letter_d : Shows → Bool
letter_d = tells is_deadlock

-- E: a session is told of an error that is neither a deadlock nor follows from an earlier one in its block
abbrev pub letter_e : Shows → Bool
letter_e = tells is_other_error

-- N: a step is not sent
abbrev pub letter_n : Shows → Bool
letter_n = tells is_unsent

abbrev pub is_waiting : Rest → Bool
is_waiting HasEnded = false
is_waiting IsOpen = false
is_waiting HasFailed = false
is_waiting StillWaits = true

-- S: a session still waits at the end
abbrev pub letter_s : Shows → Bool
letter_s s = list_any is_waiting s.rests

-- every session is through: each of its steps was sent, none waits at the end, and none was told a deadlock or another error of its own
abbrev pub is_through : Shows → Bool
is_through s = not (letter_d s || letter_e s || letter_n s || letter_s s)

-- ---- answers

abbrev pub answers_in : List Event → List Event
answers_in [] = []
answers_in (e ∷ es) = cond (is_answer e) (e ∷ answers_in es) (answers_in es)

-- what is shown as an answer, and what an order answers: the rows, counts and errors that each session is told, and the rows that are left. Waits, resumes,
-- steps that are sent or not, and how sessions stand at the end are left aside
abbrev pub Answers : Type 0
Answers = Shows

abbrev pub answers_of : Shows → Answers
answers_of s = record { told = map answers_in s.told; left = s.left; rests = [] }

abbrev pub answers_at : List Table → Spec → ℕ → Option Answers
answers_at tables spec r = option_map answers_of (shows_at tables spec r)

-- ---- serial orders

-- the orders of so many sessions: the words that have each of them once
abbrev pub session_orders : ℕ → List (List ℕ)
session_orders sessions = all_words (replicate sessions 1)

-- how often it stands there
abbrev pub times : ℕ → List ℕ → ℕ
times i [] = 0
times i (j ∷ js) = cond (i == j) 1 0 + times i js

-- each of so many sessions once, and nothing else
pub record IsOrder (sessions : ℕ) (order : List ℕ) : Type 0 where
  pub each : (i : ℕ) → i < sessions → times i order ≡ 1
  pub none : (i : ℕ) → sessions ≤ i → times i order ≡ 0

-- all letters of the first session, then all of the next one
abbrev pub whole_word : List ℕ → List ℕ → Word
whole_word counts [] = []
whole_word counts (i ∷ order) = replicate (get_or counts i 0) i ++ whole_word counts order

abbrev pub serial_line : Spec → List ℕ → List ℕ
serial_line spec order = line (queues_of spec) (whole_word (counts_of (queues_of spec)) order)

-- of a spec without lines: the answers are those of no order that runs the sessions one behind the other, each whole
pub record IsNotSerial (tables : List Table) (spec : Spec) (a : Answers) : Type 0 where
  pub words : spec.lines ≡ []
  pub none : (order : List ℕ) → Among order (session_orders spec.sessions)
      → option_map answers_of (shows_of_line tables spec (serial_line spec order)) ≢ Some a

-- R, an anomaly: every session is through, and yet no serial order answers so
pub record LetterR (tables : List Table) (spec : Spec) (s : Shows) : Type 0 where
  pub through : is_through s ≡ true
  pub other : IsNotSerial tables spec (answers_of s)

-- what is told of R: nothing of a spec with lines, and else whether it is an anomaly
abbrev pub IsR : List Table → Spec → Shows → Option Bool → Type 0
IsR tables spec s None = spec.lines ≢ []
IsR tables spec s (Some odd) = (spec.lines ≡ []) × ((odd ≡ true) ↔ LetterR tables spec s)

-- the line of the rank is such an order
abbrev pub IsSerialRank : Spec → ℕ → Type 0
IsSerialRank spec r = (order : List ℕ) × IsOrder spec.sessions order × (line_of spec r ≡ serial_line spec order)
