-- What is work tells data, and what is not tells none and writes nothing.
use Rattle.std.proofs.Common.{◌≡◌, ◌≢◌, refl, ℕ, Bool, true, false, List, [], ◌∷◌, ◌++◌, length, map, Option, Some, None}
use Rattle.finite_maps.specs.Map.{entries}
use Rattle.lock_modes.specs.RowPlace.{RowPlace}
use Rattle.lock_modes.specs.Rows.{Rows', Write}
use Rattle.bound_statements.specs.Plan.{Tuple}
use Rattle.statement_evaluation.specs.Effect.{Effect, Gives, Faults, effect, visible, matching, sorted_by, shown, projected, all_aggregated, all_assigned, placed}
use Rattle.statement_evaluation.specs.Effect.{or_fault, counted}
use Rattle.events.specs.declared.event.Event.{Event}
use Rattle.events.specs.declared.event.Event.TheVariants.{Row as RowEvent, Rows, Inserted, Updated, Deleted}
use Rattle.events.specs.declared.event.Fault.{Fault}
use Rattle.events.specs.declared.event.Fault.TheVariants.{OutOfRange, Duplicate}
use Rattle.bound_statements.specs.declared.statement.Output.{Output}
use Rattle.bound_statements.specs.declared.statement.Output.TheVariants.{Columns, Aggregates}
use Rattle.bound_statements.specs.declared.statement.Bound.{Bound}
use Rattle.bound_statements.specs.declared.statement.Bound.TheVariants.{Select, Insert, Update, Delete, Begin, Commit, Rollback, Lock, SetVariable}
use Rattle.lock_modes.specs.declared.value.Value.{Value}
use Rattle.serial_history.specs.Reading.{is_data, Reading, read}
use Rattle.serial_history.specs.Serial.{is_work}

abbrev pub AllData : List Event → Type 0
AllData [] = Unit {0}
AllData (e ∷ es) = (is_data e ≡ true) × AllData es

-- work tells something, and all of it is data; the rest writes nothing, and a transcript is read past what it tells
abbrev pub TellsWork : Bool → Effect → Type 0
TellsWork true (Gives events writes) = AllData events × (events ≢ [])
TellsWork false (Gives events writes) = ((x : Reading) → read x events ≡ x) × (writes ≡ [])
TellsWork true (Faults f) = Unit {0}
TellsWork false (Faults f) = Unit {0}

some-first : (e : Event) (es : List Event) → (e ∷ es) ≢ []
some-first e es = λ p. cc

some-last : (es : List Event) (e : Event) → (es ++ e ∷ []) ≢ []
some-last [] e = some-first e []
some-last (x ∷ es) e = some-first x (es ++ e ∷ [])

data-append : (es fs : List Event) → AllData es → AllData fs → AllData (es ++ fs)
data-append [] fs p q = q
data-append (e ∷ es) fs p q = (p.0, data-append es fs p.1 q)

data-rows : (columns : List ℕ) (es : List (RowPlace × Tuple)) → AllData (map (λ (e : RowPlace × Tuple). RowEvent (projected columns e.1)) es)
data-rows columns [] = tt
data-rows columns (e ∷ es) = (refl, data-rows columns es)

-- rows and their count, the sums, and counts of writes
shown-work : (out : Output) (es : List (RowPlace × Tuple)) → TellsWork true (shown out es)
shown-work (Columns columns) es =
    let rows : List Event = map (λ (e : RowPlace × Tuple). RowEvent (projected columns e.1)) es in
    (data-append rows (Rows (length es) ∷ []) (data-rows columns es) (refl, tt), some-last rows (Rows (length es)))
shown-work (Aggregates each) es = on (all_aggregated each es)
  where
    on : (o : Option (List Value)) → TellsWork true (elim o [ None ↦ Faults OutOfRange | Some vs ↦ Gives (RowEvent vs ∷ Rows 1 ∷ []) [] ])
    on None = tt
    on (Some vs) = ((refl, (refl, tt)), some-first (RowEvent vs) (Rows 1 ∷ []))

counted-work : (event : ℕ → Event) (ws : List Write) → ((n : ℕ) → is_data (event n) ≡ true) → TellsWork true (counted event ws)
counted-work event ws h = ((h (length ws), tt), some-first (event (length ws)) [])

or_fault-work : (f : Fault) (o : Option (List Write)) (event : ℕ → Event) → ((n : ℕ) → is_data (event n) ≡ true) → TellsWork true (or_fault f o event)
or_fault-work f None event h = tt
or_fault-work f (Some ws) event h = counted-work event ws h

matched-work : (o : Option (List (RowPlace × Tuple))) (then' : List (RowPlace × Tuple) → Effect) → ((es : List (RowPlace × Tuple)) → TellsWork true (then' es))
    → TellsWork true (elim o [ None ↦ Faults OutOfRange | Some es ↦ then' es ])
matched-work None then' h = tt
matched-work (Some es) then' h = h es

-- what the effect of a statement tells, by whether it is work
pub effect-work : (st : Bound) (rows : Rows') → TellsWork (is_work st) (effect st rows)
unfolding effect
effect-work (Select t key c by out l) rows =
    matched-work (matching c (entries (visible (Select t key c by out l) rows))) (λ es. shown out (sorted_by by es)) (λ es. shown-work out (sorted_by by es))
effect-work (Insert t (Some k) new) rows = or_fault-work Duplicate (placed t k new (visible (Insert t (Some k) new) rows)) Inserted (λ n. refl)
effect-work (Insert t None new) rows = ((refl, tt), some-first (Inserted _) [])
effect-work (Update t key sets c) rows =
    matched-work (matching c (entries (visible (Update t key sets c) rows))) (λ es. or_fault OutOfRange (all_assigned sets es) Updated)
    (λ es. or_fault-work OutOfRange (all_assigned sets es) Updated (λ n. refl))
effect-work (Delete t key c) rows =
    matched-work (matching c (entries (visible (Delete t key c) rows)))
    (λ es. counted Deleted (map (λ (e : RowPlace × Tuple). record { place = e.0; left = None }) es))
    (λ es. counted-work Deleted (map (λ (e : RowPlace × Tuple). record { place = e.0; left = None }) es) (λ n. refl))
effect-work (Lock t m n) rows = ((λ x. refl), refl)
effect-work SetVariable rows = ((λ x. refl), refl)
effect-work (Begin level) rows = ((λ x. refl), refl)
effect-work Commit rows = ((λ x. refl), refl)
effect-work Rollback rows = ((λ x. refl), refl)
