-- The order of a line, with what becomes of its steps.
use Rattle.std.specs.Prelude.{ℕ, ◌+◌, max, Bool, true, false, cond, ◌||◌, ◌==◌, List, [], ◌∷◌, ◌++◌, length, Option, Some, None, codes, unwrap_or}
use Rattle.std.specs.List.{list_any}
use Rattle.events.specs.declared.event.Event.{Event}
use Rattle.events.specs.declared.event.Event.TheVariants.{Failed}
use Rattle.line_moments.specs.declared.moment.Ending.{Ending}
use Rattle.line_moments.specs.declared.moment.Ending.TheVariants.{Awaits}
use Rattle.line_moments.specs.declared.moment.Manner.{Manner}
use Rattle.line_moments.specs.declared.moment.Manner.TheVariants.{IsSent, IsResumed, IsNotSent}
use Rattle.line_moments.specs.declared.moment.Moment.{Moment}
use Rattle.order_names.specs.Spelling.{spelled}
use Rattle.shown_texts.specs.Characters.{shown_text}
pub use Rattle.shown_texts.specs.Lanes.{step_at}
use Rattle.shown_texts.specs.declared.orders.Mark.{Mark}
use Rattle.shown_texts.specs.declared.orders.Mark.TheVariants.{Waits, Fails}

abbrev pub is_fault : Event → Bool
is_fault (Failed fault) = true
is_fault event = false

-- it ends with a wait
abbrev pub is_wait : Ending → Bool
is_wait (Awaits want) = true
is_wait ending = false

abbrev pub waits : Moment → Bool
waits m = is_wait m.ending

abbrev pub fails : Moment → Bool
fails m = list_any is_fault m.events

abbrev pub has : Mark → Moment → Bool
has Waits m = waits m
has Fails m = fails m

abbrev pub some_if : Bool → Option Bool
some_if is_so = cond is_so (Some true) None

abbrev pub decides_by : Mark → Manner → Moment → Option Bool
decides_by mark IsSent m = Some false
decides_by mark IsResumed m = some_if (has mark m)
decides_by mark IsNotSent m = None

-- whether a later moment decides what becomes of the session's step: that comes to the mark where the session goes on so, and to no more where another
-- step is sent
abbrev pub decides : Mark → ℕ → Moment → Option Bool
decides mark session m = cond (m.session == session) (decides_by mark m.manner m) None

-- the session's step comes to the mark when it goes on
abbrev pub goes_on : Mark → ℕ → List Moment → Bool
goes_on mark session [] = false
goes_on mark session (m ∷ ms) = unwrap_or (decides mark session m) (goes_on mark session ms)

-- it comes to the mark in this moment, or in a later one
abbrev pub comes_to : Mark → Moment → List Moment → Bool
comes_to mark m later = has mark m || goes_on mark m.session later

abbrev pub mark_if : Bool → List ℕ → List ℕ
mark_if is_so mark = cond is_so mark []

abbrev pub sent_marks : Moment → List Moment → List ℕ
sent_marks m later = mark_if (comes_to Waits m later) (codes ":") ++ mark_if (comes_to Fails m later) (codes "!")

-- what becomes of the step that is sent, or not sent, in a moment
abbrev pub marks_by : Manner → Moment → List Moment → List ℕ
marks_by IsSent m later = sent_marks m later
marks_by IsResumed m later = []
marks_by IsNotSent m later = codes "-"

-- a step as a permutation line has it, with its marks
abbrev pub order_step : List (List ℕ) → Moment → List Moment → List ℕ
order_step steps m later = shown_text (spelled (step_at steps m.step)) ++ (marks_by m.manner m later ++ codes " ")

abbrev pub item_by : Manner → List (List ℕ) → Moment → List Moment → List ℕ
item_by IsSent steps m later = order_step steps m later
item_by IsResumed steps m later = []
item_by IsNotSent steps m later = order_step steps m later

abbrev pub order_item : List (List ℕ) → Moment → List Moment → List ℕ
order_item steps m later = item_by m.manner steps m later

-- the steps of the moments in turn, with a blank behind each
abbrev pub order_text : List (List ℕ) → List Moment → List ℕ
order_text steps [] = []
order_text steps (m ∷ ms) = order_item steps m ms ++ order_text steps ms

-- ---- the steps of an order

abbrev pub is_step : ℕ → Option ℕ → Bool
is_step k None = false
is_step k (Some j) = j == k

abbrev pub is_of : ℕ → Moment → Bool
is_of k m = is_step k m.step

-- the step comes in the moments
abbrev pub comes_in : List Moment → ℕ → Bool
comes_in ms k = list_any (is_of k) ms

abbrev pub width_of : List Moment → ℕ → List ℕ → ℕ
width_of ms k name = cond (comes_in ms k) (length name) 0

-- the width of the widest of the names from this step on that come in the moments
abbrev pub widest_from : List Moment → ℕ → List (List ℕ) → ℕ
widest_from ms k [] = 0
widest_from ms k (name ∷ names) = max (width_of ms k name) (widest_from ms (k + 1) names)
