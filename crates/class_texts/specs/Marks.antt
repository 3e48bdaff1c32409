-- What becomes of the steps of an order, by what sessions are told in it.
use Rattle.std.specs.Prelude.{ℕ, Bool, true, false, cond, ◌||◌, ◌==◌, List, [], ◌∷◌}
use Rattle.std.specs.List.{list_any}
use Rattle.events.specs.declared.event.Event.{Event}
use Rattle.events.specs.declared.event.Event.TheVariants.{Sent, NotSent}
use Rattle.order_classes.specs.Letters.{is_wait}
use Rattle.shown_texts.specs.Orders.{is_fault}
use Rattle.class_texts.specs.declared.marks.Marks.{Marks}
use Rattle.class_texts.specs.declared.marks.Sign.{Sign}
use Rattle.class_texts.specs.declared.marks.Sign.TheVariants.{Waits, Fails}

-- the step with this number is sent
abbrev pub is_sent : ℕ → Event → Bool
is_sent k (Sent j) = j == k
is_sent k event = false

-- it is not sent
abbrev pub is_skipped : ℕ → Event → Bool
is_skipped k (NotSent j) = j == k
is_skipped k event = false

abbrev pub names_step : ℕ → Event → Bool
names_step k event = is_sent k event || is_skipped k event

-- some step is sent
abbrev pub begins_step : Event → Bool
begins_step (Sent j) = true
begins_step event = false

-- what the first session is told whose transcript has the step
abbrev pub told_of : ℕ → List (List Event) → List Event
told_of k [] = []
told_of k (events ∷ others) = cond (list_any (names_step k) events) events (told_of k others)

-- what is told from the next turn of the step on
abbrev pub from_turn : ℕ → List Event → List Event
from_turn k [] = []
from_turn k (event ∷ events) = cond (names_step k event) (event ∷ events) (from_turn k events)

-- what is told behind where that turn begins
abbrev pub behind_turn : ℕ → List Event → List Event
behind_turn k [] = []
behind_turn k (event ∷ events) = cond (names_step k event) events (behind_turn k events)

-- what is left of these behind a step of the order, which may be a turn of this one
abbrev pub passed : ℕ → ℕ → List Event → List Event
passed k j events = cond (j == k) (behind_turn k events) events

-- and behind some of them
abbrev pub behind_turns : ℕ → List ℕ → List Event → List Event
behind_turns k [] events = events
behind_turns k (j ∷ js) events = behind_turns k js (passed k j events)

abbrev pub is_told : Sign → Event → Bool
is_told Waits event = is_wait event
is_told Fails event = is_fault event

-- it is told before another step is sent
abbrev pub comes_to : Sign → List Event → Bool
comes_to sign [] = false
comes_to sign (event ∷ events) = cond (begins_step event) false (is_told sign event || comes_to sign events)

abbrev pub no_marks : Marks
no_marks = record { is_skipped = false; waits = false; fails = false }

abbrev pub skipped : Marks
skipped = record { is_skipped = true; waits = false; fails = false }

-- a step that is sent, behind which these are told
abbrev pub sent_marks : List Event → Marks
sent_marks behind = record { is_skipped = false; waits = comes_to Waits behind; fails = comes_to Fails behind }

-- a turn of a step, from which on these are told
abbrev pub turn_marks : ℕ → List Event → Marks
turn_marks k [] = no_marks
turn_marks k (event ∷ behind) = cond (is_skipped k event) skipped (sent_marks behind)

-- what becomes of a step behind these others in an order that tells the sessions these. A permutation line may have a step several times
abbrev pub marks : ℕ → List ℕ → List (List Event) → Marks
marks k before told = turn_marks k (from_turn k (behind_turns k before (told_of k told)))
