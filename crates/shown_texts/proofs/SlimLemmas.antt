-- No line of a lane is wider than its column.
use Rattle.std.proofs.Common.{◌≡◌, ℕ, zero, suc, ◌+◌, ◌-◌, ◌≤◌, Bool, true, false, cond, List, [], ◌∷◌, ◌++◌, length, flat_map, set, arith}
use Rattle.std.proofs.lemmas.List.{length-map, length-set}
use Rattle.std.specs.Prelude.{codes, nat_le, ◌==◌}
use Rattle.std.specs.List.{AllByRecursion}
use Rattle.machine_model.specs.declared.status.Status.{Status}
use Rattle.lock_queues.specs.declared.reason.Edge.{Edge}
use Rattle.lock_queues.specs.declared.told.Hop.{Hop}
use Rattle.lock_queues.specs.Reasons.{Want}
use Rattle.line_moments.specs.declared.moment.Ending.{Ending}
use Rattle.line_moments.specs.declared.moment.Ending.TheVariants.{Ended, Awaits, Loses, Lacks}
use Rattle.line_moments.specs.declared.moment.Moment.{Moment}
use Rattle.line_moments.specs.declared.moment.Still.{Still}
use Rattle.shown_texts.specs.Breaking.{broken}
use Rattle.shown_texts.specs.Words.{hop_text, reason_text, ring_text, want_text}
use Rattle.shown_texts.specs.Lanes.{all_rows, cell, cell_at, event_notes, fault_notes, first_rows, height, hop_notes, joined, joined_notes}
use Rattle.shown_texts.specs.Lanes.{lane, lane_row, lanes_from, left_at, left_by, moment_rows, note, or_done, other_lane, own_lane, own_notes, rail_behind}
use Rattle.shown_texts.specs.Stale.{stale_text}
use Rattle.line_moments.specs.declared.stale.Stale.{Stale}
use Rattle.shown_texts.specs.Lanes.{reason_note, ring_notes, stale_notes, still_notes, toned_notes, tone, wait_notes, want_notes, width, words}
use Rattle.shown_texts.specs.Laws.{IsWithin}
use Rattle.shown_texts.specs.declared.frame.Frame.{Frame}
use Rattle.shown_texts.specs.declared.lane.Cell.{Cell}
use Rattle.shown_texts.specs.declared.lane.Lane.{Lane}
use Rattle.shown_texts.specs.declared.lane.LaneRow.{LaneRow}
use Rattle.shown_texts.specs.declared.lane.Tone.{Tone}
use Rattle.shown_texts.specs.declared.lane.Tone.TheVariants.{Untold, Plain, Fails, Waits, Skips}
use Rattle.shown_texts.proofs.FittingLemmas.{broken-within}
use Rattle.shown_texts.proofs.ListLemmas.{all-append, all-cond, all-flat, all-get, all-map, all-weaken}

-- with its rail and a blank the line is no wider than a column
abbrev pub IsSlim : Frame → Cell → Type 0
IsSlim f c = length c.text + 2 ≤ f.column

-- of so many lanes, none is wider than its column, and what stands at the left is not wider than its own
abbrev pub IsRow : Frame → ℕ → LaneRow → Type 0
IsRow f n row = (length row.left ≤ f.left) × AllByRecursion (IsSlim f) row.cells × (length row.cells ≡ n)

-- the name at the left is not wider than the left
abbrev pub HasLeft : Frame → Moment → Type 0
HasLeft f m = length (left_by f.steps m.manner m.step) ≤ f.left

-- ---- the lines of one lane, where a column has room

module _ (f : Frame) (room : 18 ≤ f.column) where
  pub note-slim : (rail front : ℕ) (text : List ℕ) → front ≤ 4 → AllByRecursion (IsSlim f) (note f rail front text)
  note-slim rail front text few =
      all-map (IsSlim f) (cell rail) (broken (width f) front (front + 2) text)
      (all-weaken (IsWithin (width f)) (λ l. IsSlim f (cell rail l)) (λ l within. let a = within.0 in omega (arith, a, room))
      (broken (width f) front (front + 2) text)
      (broken-within (width f) front (front + 2) text (omega (arith, room, few)) (omega (arith, room, few))))

  reason-slim : (rail : ℕ) (word : List ℕ) (edge : Edge) → AllByRecursion (IsSlim f) (reason_note f rail word edge)
  reason-slim rail word edge = note-slim rail 2 (word ++ reason_text f.names edge) (omega arith)

  want-slim : (rail : ℕ) (word : List ℕ) (want : Want) → AllByRecursion (IsSlim f) (want_notes f rail word want)
  want-slim rail word want =
      all-append (IsSlim f) (note f rail 2 (word ++ want_text f.tables want)) (flat_map (reason_note f rail []) want.edges)
      (note-slim rail 2 (word ++ want_text f.tables want) (omega arith)) (all-flat (IsSlim f) (reason_note f rail []) (reason-slim rail []) want.edges)

  joined-slim : (rail : ℕ) (first second : List ℕ) → AllByRecursion (IsSlim f) (joined_notes f rail first second)
  joined-slim rail first second =
      all-cond (IsSlim f) (nat_le (length (joined first second)) (width f - 2)) (note f rail 2 (joined first second))
      (note f rail 2 first ++ note f rail 4 second) (note-slim rail 2 (joined first second) (omega arith))
      (all-append (IsSlim f) (note f rail 2 first) (note f rail 4 second) (note-slim rail 2 first (omega arith)) (note-slim rail 4 second (omega arith)))

  hop-slim : (rail : ℕ) (hop : Hop) → AllByRecursion (IsSlim f) (hop_notes f rail hop)
  hop-slim rail hop = joined-slim rail (hop_text f.names f.tables hop) (reason_text f.names hop.edge)

  ring-slim : (rail session : ℕ) (hops : List Hop) → AllByRecursion (IsSlim f) (ring_notes f rail session hops)
  ring-slim rail session hops =
      all-append (IsSlim f) (note f rail 2 (ring_text f.names session hops)) (flat_map (hop_notes f rail) hops)
      (note-slim rail 2 (ring_text f.names session hops) (omega arith)) (all-flat (IsSlim f) (hop_notes f rail) (hop-slim rail) hops)

  fault-slim : (session : ℕ) (ending : Ending) → AllByRecursion (IsSlim f) (fault_notes f session ending)
  fault-slim session Ended = tt
  fault-slim session (Awaits want) = tt
  fault-slim session (Loses hops) = ring-slim 33 session hops
  fault-slim session (Lacks want) = want-slim 33 [] want

  wait-slim : (word : List ℕ) (ending : Ending) → AllByRecursion (IsSlim f) (wait_notes f word ending)
  wait-slim word Ended = tt
  wait-slim word (Awaits want) = want-slim 58 word want
  wait-slim word (Loses hops) = tt
  wait-slim word (Lacks want) = tt

  toned-slim : (session : ℕ) (ending : Ending) (t : Tone) (text : List ℕ) → AllByRecursion (IsSlim f) (toned_notes f session ending t text)
  toned-slim session ending Untold text = tt
  toned-slim session ending Plain text = note-slim 124 0 text (omega arith)
  toned-slim session ending Fails text =
      all-append (IsSlim f) (note f 33 0 text) (fault_notes f session ending) (note-slim 33 0 text (omega arith)) (fault-slim session ending)
  toned-slim session ending Waits text =
      all-append (IsSlim f) (note f 58 0 text) (wait_notes f [] ending) (note-slim 58 0 text (omega arith)) (wait-slim [] ending)
  toned-slim session ending Skips text =
      all-append (IsSlim f) (note f 58 0 text) (wait_notes f (codes "still ") ending) (note-slim 58 0 text (omega arith)) (wait-slim (codes "still ") ending)

  done-slim : (status : Status) (cells : List Cell) → AllByRecursion (IsSlim f) cells → AllByRecursion (IsSlim f) (or_done status cells)
  done-slim status [] are = (omega (arith, room), tt)
  done-slim status (c ∷ cs) are = are

  own-slim : (steps : List (List ℕ)) (m : Moment) → AllByRecursion (IsSlim f) (own_notes f steps m)
  own-slim steps m =
      done-slim m.status (flat_map (event_notes f steps m) m.events)
      (all-flat (IsSlim f) (event_notes f steps m) (λ e. toned-slim m.session m.ending (tone e) (words steps e)) m.events)

  still-slim : (session rail : ℕ) (still : Still) → AllByRecursion (IsSlim f) (still_notes f session rail still)
  still-slim session rail still =
      all-cond (IsSlim f) (still.session == session) (flat_map (reason_note f rail (codes "now ")) still.edges) []
      (all-flat (IsSlim f) (reason_note f rail (codes "now ")) (reason-slim rail (codes "now ")) still.edges) tt

  stale-slim : (steps : List (List ℕ)) (writer session rail : ℕ) (stale : Stale) → AllByRecursion (IsSlim f) (stale_notes f steps writer session rail stale)
  stale-slim steps writer session rail stale =
      all-cond (IsSlim f) (stale.session == session) (note f rail 2 (stale_text f steps writer stale)) []
      (note-slim rail 2 (stale_text f steps writer stale) (omega arith)) tt

  -- ---- the lanes beside each other

  abbrev IsSlimLane : Lane → Type 0
  IsSlimLane l = AllByRecursion (IsSlim f) l.lines

  which : (b : Bool) (x y : Lane) → IsSlimLane x → IsSlimLane y → IsSlimLane (cond b x y)
  which true x y a b = a
  which false x y a b = b

  lane-slim : (steps : List (List ℕ)) (m : Moment) (session rail : ℕ) → IsSlimLane (lane f steps m session rail)
  lane-slim steps m session rail =
      which (m.session == session) (own_lane f steps m) (other_lane f steps m session rail) (own-slim steps m)
      (all-append (IsSlim f) (flat_map (still_notes f session rail) m.still) (flat_map (stale_notes f steps m.session session rail) m.stale)
      (all-flat (IsSlim f) (still_notes f session rail) (still-slim session rail) m.still)
      (all-flat (IsSlim f) (stale_notes f steps m.session session rail) (stale-slim steps m.session session rail) m.stale))

  lanes-slim : (steps : List (List ℕ)) (m : Moment) (session : ℕ) (rails : List ℕ) → AllByRecursion IsSlimLane (lanes_from f steps m session rails)
  lanes-slim steps m session [] = tt
  lanes-slim steps m session (rail ∷ rails) = (lane-slim steps m session rail, lanes-slim steps m (session + 1) rails)

  lanes-long : (steps : List (List ℕ)) (m : Moment) (session : ℕ) (rails : List ℕ) → length (lanes_from f steps m session rails) ≡ length rails
  lanes-long steps m session [] = omega arith
  lanes-long steps m session (rail ∷ rails) = let h = lanes-long steps m (session + 1) rails in omega (arith, h)

  left-slim : (left : List ℕ) (i : ℕ) → length left ≤ f.left → length (left_at left i) ≤ f.left
  left-slim left zero le = le
  left-slim left (suc i) le = omega arith

  row-slim : (left : List ℕ) (lanes : List Lane) (i : ℕ) → length left ≤ f.left → AllByRecursion IsSlimLane lanes
      → IsRow f (length lanes) (lane_row left lanes i)
  row-slim left lanes i le are = (
    le,
    all-map (IsSlim f) (cell_at i) lanes
        (all-weaken IsSlimLane (λ l. IsSlim f (cell_at i l)) (λ l slim. all-get (IsSlim f) (cell l.below []) (omega (arith, room)) l.lines i slim) lanes are),
    length-map lanes (cell_at i),
  )

  first-slim : (left : List ℕ) (lanes : List Lane) (n : ℕ) → length left ≤ f.left → AllByRecursion IsSlimLane lanes
      → AllByRecursion (IsRow f (length lanes)) (first_rows left lanes n)
  first-slim left lanes zero le are = tt
  first-slim left lanes (suc n) le are =
      all-append (IsRow f (length lanes)) (first_rows left lanes n) (lane_row (left_at left n) lanes n ∷ []) (first-slim left lanes n le are)
      (row-slim (left_at left n) lanes n (left-slim left n le) are, tt)

  pub rows-slim : (steps : List (List ℕ)) (n : ℕ) (rails : List ℕ) (ms : List Moment) → length rails ≡ n → AllByRecursion (HasLeft f) ms
      → AllByRecursion (IsRow f n) (all_rows f steps rails ms)
  rows-slim steps n rails [] long are = tt
  rows-slim steps n rails (m ∷ ms) long are =
      let lanes = lanes_from f steps m 0 rails in
      let left = left_by f.steps m.manner m.step in
      let count : length lanes ≡ n = let a = lanes-long steps m 0 rails in omega (arith, a, long) in
      let here = first-slim left lanes (height lanes) are.0 (lanes-slim steps m 0 rails) in
      let set_long = length-set rails m.session (rail_behind m) in
      all-append (IsRow f n) (moment_rows f steps rails m) (all_rows f steps (set rails m.session (rail_behind m)) ms)
      (all-weaken (IsRow f (length lanes)) (IsRow f n) (λ row is. let c = is.2 in (is.0, is.1, omega (arith, c, count))) (moment_rows f steps rails m) here)
      (rows-slim steps n (set rails m.session (rail_behind m)) ms (omega (arith, set_long, long)) are.1)
