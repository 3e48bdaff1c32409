-- Worked moments, computed.
use Rattle.std.proofs.Common.{◌≡◌, refl, ℕ, true, false, List, [], ◌∷◌, Option, Some, None}
use Rattle.finite_maps.specs.Map.{get, insert, keep, remove, entries, empty}
use Rattle.lock_modes.specs.declared.mode.Mode.{Mode}
use Rattle.lock_modes.specs.declared.mode.Mode.TheVariants.{IntentShare, IntentExclusive, Share, Exclusive}
use Rattle.lock_modes.specs.declared.resource.Resource.{Resource}
use Rattle.lock_modes.specs.declared.resource.Resource.TheVariants.{Table, Row as RowOf}
use Rattle.lock_modes.specs.declared.value.Value.{Value}
use Rattle.lock_modes.specs.Rows.{Tuple}
use Rattle.lock_queues.specs.declared.reason.Reason.TheVariants.{Holds, Ahead}
use Rattle.lock_queues.specs.declared.reason.Edge.{Edge}
use Rattle.lock_queues.specs.declared.told.Hop.{Hop}
use Rattle.row_tables.specs.Overlay.{lay}
use Rattle.statement_evaluation.specs.Effect.{effect}
use Rattle.binding_model.specs.Tables.{no_table}
use Rattle.bound_specs.specs.Spec.{Spec}
use Rattle.bound_statements.specs.declared.statement.Level.TheVariants.{Serializable}
use Rattle.bound_statements.specs.declared.statement.Bound.TheVariants.{Insert, Delete, Begin, Commit}
use Rattle.events.specs.declared.event.Event.TheVariants.{Sent, Row as RowEvent, Rows, Updated, Committed, Failed, Waiting, Resumed, Done, NotSent}
use Rattle.events.specs.declared.event.Fault.TheVariants.{Deadlock, Unavailable}
use Rattle.machine_model.specs.declared.status.Status.TheVariants.{Outside, InBlock, Broken}
use Rattle.machine_model.specs.Start.{Started, start}
use Rattle.machine_model.proofs.Worked.{number, id_is, step, in_blocks, two_rows, sets, reads_one, waits_row, ring_row, not_waiting_row, ring_or_not}
use Rattle.line_moments.specs.declared.moment.Moment.{Moment}
use Rattle.line_moments.specs.declared.moment.Manner.TheVariants.{IsSent, IsResumed, IsNotSent}
use Rattle.line_moments.specs.declared.moment.Ending.{Ending}
use Rattle.line_moments.specs.declared.moment.Ending.TheVariants.{Ended, Awaits, Loses, Lacks}
use Rattle.line_moments.specs.declared.moment.Change.TheVariants.{Had, LetGo}
use Rattle.line_moments.specs.declared.moment.Still.{Still}
use Rattle.line_moments.specs.Moments.{line_moments}
use Rattle.line_moments.specs.declared.shown.Left.{Left}
use Rattle.line_moments.specs.declared.shown.Shown.{Shown}
use Rattle.line_moments.specs.declared.shown.Standing.{Standing}
use Rattle.line_moments.specs.declared.shown.Standing.TheVariants.{HasEnded, IsOpen, StillWaits}
use Rattle.line_moments.specs.Left.{shown, rows_alone, LeaveSame}

abbrev told : Spec → List ℕ → List Moment
told spec ks = elim (start spec) [ Started w ↦ line_moments spec.steps w ks | _ ↦ [] ]

-- row k of table 0
abbrev row : ℕ → Resource
row k = RowOf 0 (number k)

abbrev holds : ℕ → Mode → Edge
holds c m = record { session = c; reason = Holds m }

abbrev is_ahead : ℕ → Mode → Edge
is_ahead c m = record { session = c; reason = Ahead m }

-- a mode is wanted where nothing is held
abbrev awaits : Resource → Mode → List Edge → Ending
awaits r m es = Awaits (record { resource = r; mode = m; asked = m; has = None; edges = es })

-- so is one by a request that refuses to wait
abbrev lacks : Resource → Mode → List Edge → Ending
lacks r m es = Lacks (record { resource = r; mode = m; asked = m; has = None; edges = es })

-- session a waits for an exclusive lock, for session b
abbrev hop : ℕ → ℕ → ℕ → Hop
hop a k b = record { session = a; resource = row k; mode = Exclusive; edge = holds b Exclusive }

-- a waiter goes on when the holder commits, and a step sent to it meanwhile is not sent
waits_row_is : told waits_row (0 ∷ 2 ∷ 3 ∷ 1 ∷ [])
    ≡ record {
      session = 0;
      manner = IsSent;
      step = Some 0;
      events = Sent 0 ∷ Updated 1 ∷ Done ∷ [];
      changes = Had (Table 0) IntentExclusive ∷ Had (row 1) Exclusive ∷ [];
      status = InBlock Serializable;
      ending = Ended;
      still = [];
      stale = [];
    }
    ∷ record {
      session = 1;
      manner = IsSent;
      step = Some 2;
      events = Sent 2 ∷ Waiting ∷ [];
      changes = Had (Table 0) IntentExclusive ∷ [];
      status = InBlock Serializable;
      ending = awaits (row 1) Exclusive (holds 0 Exclusive ∷ []);
      still = [];
      stale = [];
    }
    ∷ record {
      session = 1;
      manner = IsNotSent;
      step = Some 3;
      events = NotSent 3 ∷ [];
      changes = [];
      status = InBlock Serializable;
      ending = awaits (row 1) Exclusive (holds 0 Exclusive ∷ []);
      still = [];
      stale = [];
    }
    ∷ record {
      session = 0;
      manner = IsSent;
      step = Some 1;
      events = Sent 1 ∷ Committed ∷ Done ∷ [];
      changes = LetGo ∷ [];
      status = Outside;
      ending = Ended;
      still = [];
      stale = [];
    }
    ∷ record {
      session = 1;
      manner = IsResumed;
      step = Some 2;
      events = Resumed ∷ Updated 1 ∷ Done ∷ [];
      changes = Had (row 1) Exclusive ∷ [];
      status = InBlock Serializable;
      ending = Ended;
      still = [];
      stale = [];
    }
    ∷ []
unfolding get insert keep remove entries empty effect lay
waits_row_is = refl

-- the request that would close a ring is refused, the ring is told, and the victim's locks wake the other
ring_row_is : told ring_row (0 ∷ 2 ∷ 1 ∷ 3 ∷ [])
    ≡ record {
      session = 0;
      manner = IsSent;
      step = Some 0;
      events = Sent 0 ∷ Updated 1 ∷ Done ∷ [];
      changes = Had (Table 0) IntentExclusive ∷ Had (row 1) Exclusive ∷ [];
      status = InBlock Serializable;
      ending = Ended;
      still = [];
      stale = [];
    }
    ∷ record {
      session = 1;
      manner = IsSent;
      step = Some 2;
      events = Sent 2 ∷ Updated 1 ∷ Done ∷ [];
      changes = Had (Table 0) IntentExclusive ∷ Had (row 2) Exclusive ∷ [];
      status = InBlock Serializable;
      ending = Ended;
      still = [];
      stale = [];
    }
    ∷ record {
      session = 0;
      manner = IsSent;
      step = Some 1;
      events = Sent 1 ∷ Waiting ∷ [];
      changes = Had (Table 0) IntentExclusive ∷ [];
      status = InBlock Serializable;
      ending = awaits (row 2) Exclusive (holds 1 Exclusive ∷ []);
      still = [];
      stale = [];
    }
    ∷ record {
      session = 1;
      manner = IsSent;
      step = Some 3;
      events = Sent 3 ∷ Failed Deadlock ∷ Done ∷ [];
      changes = Had (Table 0) IntentExclusive ∷ LetGo ∷ [];
      status = Broken;
      ending = Loses (hop 1 1 0 ∷ hop 0 2 1 ∷ []);
      still = [];
      stale = [];
    }
    ∷ record {
      session = 0;
      manner = IsResumed;
      step = Some 1;
      events = Resumed ∷ Updated 1 ∷ Done ∷ [];
      changes = Had (row 2) Exclusive ∷ [];
      status = InBlock Serializable;
      ending = Ended;
      still = [];
      stale = [];
    }
    ∷ []
unfolding get insert keep remove entries empty effect lay
ring_row_is = refl

-- two writers of one row behind a third: the second waits for the first's wait, and then for what it holds
abbrev queue_row : Spec
queue_row =
    record {
      sessions = 3;
      steps = step 0 (sets 1 5) ∷ step 0 Commit ∷ step 1 (sets 1 6) ∷ step 2 (sets 1 7) ∷ [];
      setups = two_rows ∷ [];
      lines = [];
      session_setups = (Begin None ∷ []) ∷ (Begin None ∷ []) ∷ [] ∷ [];
    }

abbrev endings : List Moment → List (Ending × List Still)
endings [] = []
endings (m ∷ ms) = (m.ending, m.still) ∷ endings ms

queue_row_is : endings (told queue_row (0 ∷ 2 ∷ 3 ∷ 1 ∷ []))
    ≡ (Ended, []) ∷ (awaits (row 1) Exclusive (holds 0 Exclusive ∷ []), [])
    ∷ (awaits (row 1) Exclusive (holds 0 Exclusive ∷ is_ahead 1 Exclusive ∷ []), [])
    ∷ (Ended, record { session = 2; edges = is_ahead 1 Exclusive ∷ [] } ∷ [])
    ∷ (Ended, record { session = 2; edges = holds 1 Exclusive ∷ [] } ∷ []) ∷ []
unfolding get insert keep remove entries empty effect lay
queue_row_is = refl

-- a read FOR UPDATE waits for the row that another one has locked, and reads it once that one has committed
abbrev locking_row : Spec
locking_row =
    in_blocks 2 (step 0 (reads_one (record { exclusive = true; nowait = false; level = None })) ∷ step 0 Commit
    ∷ step 1 (reads_one (record { exclusive = true; nowait = false; level = None })) ∷ [])

locking_row_is : told locking_row (0 ∷ 2 ∷ 1 ∷ [])
    ≡ record {
      session = 0;
      manner = IsSent;
      step = Some 0;
      events = Sent 0 ∷ RowEvent (number 10 ∷ []) ∷ Rows 1 ∷ Done ∷ [];
      changes = Had (Table 0) IntentExclusive ∷ Had (row 1) Exclusive ∷ [];
      status = InBlock Serializable;
      ending = Ended;
      still = [];
      stale = [];
    }
    ∷ record {
      session = 1;
      manner = IsSent;
      step = Some 2;
      events = Sent 2 ∷ Waiting ∷ [];
      changes = Had (Table 0) IntentExclusive ∷ [];
      status = InBlock Serializable;
      ending = awaits (row 1) Exclusive (holds 0 Exclusive ∷ []);
      still = [];
      stale = [];
    }
    ∷ record {
      session = 0;
      manner = IsSent;
      step = Some 1;
      events = Sent 1 ∷ Committed ∷ Done ∷ [];
      changes = LetGo ∷ [];
      status = Outside;
      ending = Ended;
      still = [];
      stale = [];
    }
    ∷ record {
      session = 1;
      manner = IsResumed;
      step = Some 2;
      events = Resumed ∷ RowEvent (number 10 ∷ []) ∷ Rows 1 ∷ Done ∷ [];
      changes = Had (row 1) Exclusive ∷ [];
      status = InBlock Serializable;
      ending = Ended;
      still = [];
      stale = [];
    }
    ∷ []
unfolding get insert keep remove entries empty effect lay
locking_row_is = refl

-- a read that refuses to wait fails at once where the row is locked: it tells who has it, and lets go of the table too, which it had
not_waiting_row_is : told not_waiting_row (0 ∷ 2 ∷ [])
    ≡ record {
      session = 0;
      manner = IsSent;
      step = Some 0;
      events = Sent 0 ∷ RowEvent (number 10 ∷ []) ∷ Rows 1 ∷ Done ∷ [];
      changes = Had (Table 0) IntentExclusive ∷ Had (row 1) Exclusive ∷ [];
      status = InBlock Serializable;
      ending = Ended;
      still = [];
      stale = [];
    }
    ∷ record {
      session = 1;
      manner = IsSent;
      step = Some 2;
      events = Sent 2 ∷ Failed Unavailable ∷ Done ∷ [];
      changes = Had (Table 0) IntentShare ∷ LetGo ∷ [];
      status = Broken;
      ending = lacks (row 1) Share (holds 0 Exclusive ∷ []);
      still = [];
      stale = [];
    }
    ∷ []
unfolding get insert keep remove entries empty effect lay
not_waiting_row_is = refl

-- nor is a ring told where the wait that was refused would have closed one; what is let go wakes the other
ring_or_not_is : endings (told ring_or_not (0 ∷ 2 ∷ 1 ∷ 3 ∷ []))
    ≡ (Ended, []) ∷ (Ended, [])
    ∷ (Awaits (record { resource = Table 0; mode = Exclusive; asked = Exclusive; has = Some Share; edges = holds 1 Share ∷ [] }), [])
    ∷ (Lacks (record { resource = Table 0; mode = Exclusive; asked = Exclusive; has = Some Share; edges = holds 0 Share ∷ is_ahead 0 Exclusive ∷ [] }), [])
    ∷ (Ended, []) ∷ []
unfolding get insert keep remove entries empty effect lay
ring_or_not_is = refl

-- ---- what lines leave

abbrev shows : Spec → List ℕ → Option Shown
shows spec ks = shown (no_table ∷ []) spec ks

abbrev left_rows : List Left → List (List (Value × Tuple))
left_rows [] = []
left_rows (x ∷ xs) = x.rows ∷ left_rows xs

abbrev ends : Option Shown → List (List (Value × Tuple)) × List Standing
ends None = ([], [])
ends (Some x) = (left_rows x.left, x.standings)

-- the rows of the one that has committed, in key order, and not of the one that is open
waits_row_left : ends (shows waits_row (0 ∷ 2 ∷ 3 ∷ 1 ∷ []))
    ≡ (((number 1, number 1 ∷ number 11 ∷ []) ∷ (number 2, number 2 ∷ number 20 ∷ []) ∷ []) ∷ [], HasEnded ∷ IsOpen ∷ [])
unfolding get insert keep remove entries empty effect lay
waits_row_left = refl

-- of a line that stops while a session waits
waits_row_stops : ends (shows waits_row (0 ∷ 2 ∷ []))
    ≡ (
      ((number 1, number 1 ∷ number 10 ∷ []) ∷ (number 2, number 2 ∷ number 20 ∷ []) ∷ []) ∷ [],
      IsOpen ∷ StillWaits (record { resource = row 1; mode = Exclusive; asked = Exclusive; has = None; edges = holds 0 Exclusive ∷ [] }) ∷ [],
    )
unfolding get insert keep remove entries empty effect lay
waits_row_stops = refl

-- what the setups left: the rows as they were before the line
abbrev firsts : Option Shown → List (List Tuple)
firsts None = []
firsts (Some x) = rows_alone x.first

waits_row_begins : firsts (shows waits_row (0 ∷ 2 ∷ [])) ≡ ((number 1 ∷ number 10 ∷ []) ∷ (number 2 ∷ number 20 ∷ []) ∷ []) ∷ []
unfolding get insert keep remove entries empty effect lay
waits_row_begins = refl

-- in a table without a key a row's number is past those that are there when it comes: orders that put it at other numbers leave the same
abbrev keyless : Spec
keyless =
    record {
      sessions = 2;
      steps = step 0 (Insert 0 None ((number 5 ∷ []) ∷ [])) ∷ step 0 (Delete 0 None (id_is 5)) ∷ step 1 (Insert 0 None ((number 6 ∷ []) ∷ [])) ∷ [];
      setups = [];
      lines = [];
      session_setups = [] ∷ [] ∷ [];
    }

keyless_before : ends (shows keyless (0 ∷ 1 ∷ 2 ∷ [])) ≡ (((number 1, number 6 ∷ []) ∷ []) ∷ [], HasEnded ∷ HasEnded ∷ [])
unfolding get insert keep remove entries empty effect lay
keyless_before = refl

keyless_between : ends (shows keyless (0 ∷ 2 ∷ 1 ∷ [])) ≡ (((number 2, number 6 ∷ []) ∷ []) ∷ [], HasEnded ∷ HasEnded ∷ [])
unfolding get insert keep remove entries empty effect lay
keyless_between = refl

abbrev lasts : Option Shown → List Left
lasts None = []
lasts (Some x) = x.left

keyless_same : LeaveSame (lasts (shows keyless (0 ∷ 1 ∷ 2 ∷ []))) (lasts (shows keyless (0 ∷ 2 ∷ 1 ∷ [])))
unfolding get insert keep remove entries empty effect lay
keyless_same = refl
