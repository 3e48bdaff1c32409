-- The lanes: what a moment tells its session and the others, beside each other.
use Rattle.std.specs.Prelude.{ℕ, zero, suc, ◌+◌, ◌-◌, nat_le, max, cond, ◌==◌, List, []}
use Rattle.std.specs.Prelude.{◌∷◌, ◌++◌, length, map, get_or, set, Option, Some, None, codes, flat_map}
use Rattle.events.specs.declared.event.Event.{Event}
use Rattle.events.specs.declared.event.Event.TheVariants.{Sent, Failed, Waiting, Done, NotSent}
use Rattle.transcripts.specs.Text.{event_text}
use Rattle.machine_model.specs.declared.status.Status.{Status}
use Rattle.machine_model.specs.declared.status.Status.TheVariants.{Outside, InBlock, Broken}
use Rattle.lock_queues.specs.declared.reason.Edge.{Edge}
use Rattle.lock_queues.specs.declared.told.Hop.{Hop}
use Rattle.lock_queues.specs.Reasons.{Want}
use Rattle.line_moments.specs.declared.moment.Ending.{Ending}
use Rattle.line_moments.specs.declared.moment.Ending.TheVariants.{Ended, Awaits, Loses, Lacks}
use Rattle.line_moments.specs.declared.moment.Manner.TheVariants.{IsSent, IsResumed, IsNotSent}
use Rattle.line_moments.specs.declared.moment.Manner.{Manner}
use Rattle.line_moments.specs.declared.moment.Moment.{Moment}
use Rattle.line_moments.specs.declared.moment.Still.{Still}
use Rattle.line_moments.specs.declared.stale.Stale.{Stale}
use Rattle.shown_texts.specs.Stale.{stale_text}
use Rattle.line_moments.specs.declared.shown.Begun.{Begun}
use Rattle.line_moments.specs.declared.shown.Shown.{Shown}
use Rattle.shown_texts.specs.Characters.{padded, shown_text}
use Rattle.shown_texts.specs.Breaking.{broken}
use Rattle.shown_texts.specs.Words.{want_text, reason_text, hop_text, ring_text}
use Rattle.shown_texts.specs.declared.frame.Frame.{Frame}
use Rattle.shown_texts.specs.declared.lane.Cell.{Cell}
use Rattle.shown_texts.specs.declared.lane.Lane.{Lane}
use Rattle.shown_texts.specs.declared.lane.LaneRow.{LaneRow}
use Rattle.shown_texts.specs.declared.lane.Tone.{Tone}
use Rattle.shown_texts.specs.declared.lane.Tone.TheVariants.{Untold, Plain, Fails, Waits, Skips}

-- ---- the lines of one lane

-- of a column two characters are its rail and a blank, and one parts it from the next
abbrev pub width : Frame → ℕ
width f = f.column - 3

abbrev pub cell : ℕ → List ℕ → Cell
cell rail text = record { rail = rail; text = text }

-- a text in lines behind so many blanks, and two more from the second one on, beside a rail
abbrev pub note : Frame → ℕ → ℕ → List ℕ → List Cell
note f rail front text = map (cell rail) (broken (width f) front (front + 2) text)

abbrev pub reason_note : Frame → ℕ → List ℕ → Edge → List Cell
reason_note f rail word edge = note f rail 2 (word ++ reason_text f.names edge)

-- what a session wants, behind a word, and each reason why it has it not
abbrev pub want_notes : Frame → ℕ → List ℕ → Want → List Cell
want_notes f rail word want = note f rail 2 (word ++ want_text f.tables want) ++ flat_map (reason_note f rail []) want.edges

abbrev pub joined : List ℕ → List ℕ → List ℕ
joined first second = first ++ (codes " " ++ second)

-- two parts on one line where they fit, else the second one beneath
abbrev pub joined_notes : Frame → ℕ → List ℕ → List ℕ → List Cell
joined_notes f rail first second =
    cond (nat_le (length (joined first second)) (width f - 2)) (note f rail 2 (joined first second)) (note f rail 2 first ++ note f rail 4 second)

abbrev pub hop_notes : Frame → ℕ → Hop → List Cell
hop_notes f rail hop = joined_notes f rail (hop_text f.names f.tables hop) (reason_text f.names hop.edge)

-- a ring, and each edge of it
abbrev pub ring_notes : Frame → ℕ → ℕ → List Hop → List Cell
ring_notes f rail session hops = note f rail 2 (ring_text f.names session hops) ++ flat_map (hop_notes f rail) hops

-- why a request was refused
abbrev pub fault_notes : Frame → ℕ → Ending → List Cell
fault_notes f session Ended = []
fault_notes f session (Awaits want) = []
fault_notes f session (Loses hops) = ring_notes f 33 session hops
fault_notes f session (Lacks want) = want_notes f 33 [] want

-- why the session waits
abbrev pub wait_notes : Frame → List ℕ → Ending → List Cell
wait_notes f word Ended = []
wait_notes f word (Awaits want) = want_notes f 58 word want
wait_notes f word (Loses hops) = []
wait_notes f word (Lacks want) = []

-- what an event is to whom reads a lane
abbrev pub tone : Event → Tone
tone (Sent k) = Untold
tone Done = Untold
tone (Failed fault) = Fails
tone Waiting = Waits
tone (NotSent k) = Skips
tone event = Plain

-- the words of an event of a moment that ends so, and beneath them why it came to it: a fault beside !, a wait beside :, and all else beside |
abbrev pub toned_notes : Frame → ℕ → Ending → Tone → List ℕ → List Cell
toned_notes f session ending Untold text = []
toned_notes f session ending Plain text = note f 124 0 text
toned_notes f session ending Fails text = note f 33 0 text ++ fault_notes f session ending
toned_notes f session ending Waits text = note f 58 0 text ++ wait_notes f [] ending
toned_notes f session ending Skips text = note f 58 0 text ++ wait_notes f (codes "still ") ending

abbrev pub words : List (List ℕ) → Event → List ℕ
words steps event = shown_text (event_text steps event)

abbrev pub event_notes : Frame → List (List ℕ) → Moment → Event → List Cell
event_notes f steps m event = toned_notes f m.session m.ending (tone event) (words steps event)

-- the rail of a session that does not wait
abbrev pub rail_of : Status → ℕ
rail_of Outside = 32
rail_of (InBlock level) = 124
rail_of Broken = 33

abbrev pub done_rail : Status → ℕ
done_rail Outside = 124
done_rail (InBlock level) = 124
done_rail Broken = 33

-- a moment of which nothing is told
abbrev pub or_done : Status → List Cell → List Cell
or_done status [] = cell (done_rail status) (codes "done") ∷ []
or_done status (c ∷ cs) = c ∷ cs

-- what a moment tells its session
abbrev pub own_notes : Frame → List (List ℕ) → Moment → List Cell
own_notes f steps m = or_done m.status (flat_map (event_notes f steps m) m.events)

-- how the session stands behind it
abbrev pub rail_by : Ending → Status → ℕ
rail_by Ended status = rail_of status
rail_by (Awaits want) status = 58
rail_by (Loses hops) status = rail_of status
rail_by (Lacks want) status = rail_of status

abbrev pub rail_behind : Moment → ℕ
rail_behind m = rail_by m.ending m.status

-- what is told of a session that goes on waiting, for other reasons than before
abbrev pub still_notes : Frame → ℕ → ℕ → Still → List Cell
still_notes f session rail still = cond (still.session == session) (flat_map (reason_note f rail (codes "now ")) still.edges) []

-- what is told of a session whose read the moment made stale
abbrev pub stale_notes : Frame → List (List ℕ) → ℕ → ℕ → ℕ → Stale → List Cell
stale_notes f steps writer session rail stale = cond (stale.session == session) (note f rail 2 (stale_text f steps writer stale)) []

-- ---- the lanes beside each other

-- the session's lane beside a moment
abbrev pub own_lane : Frame → List (List ℕ) → Moment → Lane
own_lane f steps m = record { lines = own_notes f steps m; below = rail_behind m }

-- that of another session, whose rail is so
abbrev pub other_lane : Frame → List (List ℕ) → Moment → ℕ → ℕ → Lane
other_lane f steps m session rail = record {
  lines = flat_map (still_notes f session rail) m.still ++ flat_map (stale_notes f steps m.session session rail) m.stale;
  below = rail;
}

abbrev pub lane : Frame → List (List ℕ) → Moment → ℕ → ℕ → Lane
lane f steps m session rail = cond (m.session == session) (own_lane f steps m) (other_lane f steps m session rail)

-- of the sessions from this one on, whose rails are so
abbrev pub lanes_from : Frame → List (List ℕ) → Moment → ℕ → List ℕ → List Lane
lanes_from f steps m session [] = []
lanes_from f steps m session (rail ∷ rails) = lane f steps m session rail ∷ lanes_from f steps m (session + 1) rails

abbrev pub height : List Lane → ℕ
height [] = 0
height (l ∷ ls) = max (length l.lines) (height ls)

-- what stands in a lane so many rows down: beneath its lines the rail alone
abbrev pub cell_at : ℕ → Lane → Cell
cell_at i l = get_or l.lines i (cell l.below [])

abbrev pub lane_row : List ℕ → List Lane → ℕ → LaneRow
lane_row left lanes i = record { left = left; cells = map (cell_at i) lanes }

-- at the left something stands in the first row alone
abbrev pub left_at : List ℕ → ℕ → List ℕ
left_at left zero = left
left_at left (suc i) = []

-- the first so many rows
abbrev pub first_rows : List ℕ → List Lane → ℕ → List LaneRow
first_rows left lanes zero = []
first_rows left lanes (suc n) = first_rows left lanes n ++ lane_row (left_at left n) lanes n ∷ []

abbrev pub rows_of : List ℕ → List Lane → List LaneRow
rows_of left lanes = first_rows left lanes (height lanes)

-- the step that is sent or not sent
abbrev pub step_at : List (List ℕ) → Option ℕ → List ℕ
step_at steps None = []
step_at steps (Some k) = get_or steps k []

abbrev pub left_by : List (List ℕ) → Manner → Option ℕ → List ℕ
left_by steps IsSent step = step_at steps step
left_by steps IsResumed step = []
left_by steps IsNotSent step = step_at steps step

-- the rows of a moment, before which the rails are so
abbrev pub moment_rows : Frame → List (List ℕ) → List ℕ → Moment → List LaneRow
moment_rows f steps rails m = rows_of (left_by f.steps m.manner m.step) (lanes_from f steps m 0 rails)

-- the rows of the moments in turn
abbrev pub all_rows : Frame → List (List ℕ) → List ℕ → List Moment → List LaneRow
all_rows f steps rails [] = []
all_rows f steps rails (m ∷ ms) = moment_rows f steps rails m ++ all_rows f steps (set rails m.session (rail_behind m)) ms

abbrev pub begun_rail : Begun → ℕ
begun_rail begun = rail_of begun.status

-- the rows of what is shown
abbrev pub rows : Frame → List (List ℕ) → Shown → List LaneRow
rows f steps shown = all_rows f steps (map begun_rail shown.begun) shown.moments

-- ---- the lines of the page

abbrev pub cell_text : Frame → Cell → List ℕ
cell_text f c = padded f.column (c.rail ∷ 32 ∷ c.text)

abbrev pub row_text : Frame → LaneRow → List ℕ
row_text f row = padded f.left row.left ++ (codes " " ++ flat_map (cell_text f) row.cells)
