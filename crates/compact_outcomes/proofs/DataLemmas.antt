-- The JSON value of an outcome is not deep.
use Rattle.std.proofs.Common.{ℕ, ◌≤◌, arith, List, [], ◌∷◌, map}
use Rattle.serde_json.specs.Data.{Data, depth, items_depth}
use Rattle.serde_json.specs.View.{items_of}
use Rattle.lock_modes.specs.declared.value.Value.{Value}
use Rattle.lock_modes.specs.declared.value.Value.TheVariants.{Int, Text}
use Rattle.events.specs.declared.event.Event.{Event}
use Rattle.events.specs.declared.event.Event.TheVariants.{Sent, Row, Rows, Inserted, Updated, Deleted, Began, Committed, RolledBack, Locked, Set}
use Rattle.events.specs.declared.event.Event.TheVariants.{Warned, Failed, Waiting, Resumed, Done, NotSent}
use Rattle.transcripts.specs.Json.{cell_data, event_data, session_data, outcome_data}

pub items-deep : {X : Type 0} (enc : X → Data) (n : ℕ) → ((x : X) → depth (enc x) ≤ n) → (xs : List X) → items_depth (items_of (map enc xs)) ≤ n
items-deep enc n h [] = omega arith
items-deep enc n h (x ∷ xs) = let a = h x in let b = items-deep enc n h xs in omega (arith, a, b)

cell-deep : (v : Value) → depth (cell_data v) ≤ 0
cell-deep (Int z) = omega arith
cell-deep (Text s) = omega arith

event-deep : (e : Event) → depth (event_data e) ≤ 2
event-deep (Row vs) = let a = items-deep cell_data 0 cell-deep vs in omega (arith, a)
event-deep (Sent n) = omega arith
event-deep (Rows n) = omega arith
event-deep (Inserted n) = omega arith
event-deep (Updated n) = omega arith
event-deep (Deleted n) = omega arith
event-deep Began = omega arith
event-deep Committed = omega arith
event-deep RolledBack = omega arith
event-deep Locked = omega arith
event-deep Set = omega arith
event-deep (Warned w) = omega arith
event-deep (Failed f) = omega arith
event-deep Waiting = omega arith
event-deep Resumed = omega arith
event-deep Done = omega arith
event-deep (NotSent n) = omega arith

session-deep : (es : List Event) → depth (session_data es) ≤ 3
session-deep es = let a = items-deep event_data 2 event-deep es in omega (arith, a)

pub told-deep : (o : List (List Event)) → depth (outcome_data o) ≤ 4
told-deep o = let a = items-deep session_data 3 session-deep o in omega (arith, a)
