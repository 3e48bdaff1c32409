-- What the effect of a statement tells.
use Rattle.std.proofs.Common.{◌≡◌, refl, ℕ, true, List, [], ◌∷◌, ◌++◌, length, map, Option, Some, None}
use Rattle.finite_maps.specs.Map.{entries}
use Rattle.lock_modes.specs.RowPlace.{RowPlace}
use Rattle.lock_modes.specs.Rows.{Rows', Write}
use Rattle.bound_statements.specs.Plan.{Tuple}
use Rattle.statement_evaluation.specs.Effect.{Effect, Gives, Faults, effect, visible, matching, sorted_by, shown, projected, all_aggregated, all_assigned, placed}
use Rattle.statement_evaluation.specs.Effect.{or_fault, counted}
use Rattle.machine_model.specs.Events.{is_effect}
use Rattle.events.specs.declared.event.Event.{Event}
use Rattle.events.specs.declared.event.Event.TheVariants.{Row as RowEvent, Rows, Inserted, Updated, Deleted}
use Rattle.events.specs.declared.event.Fault.{Fault}
use Rattle.events.specs.declared.event.Fault.TheVariants.{OutOfRange, Duplicate}
use Rattle.bound_statements.specs.declared.statement.Output.{Output}
use Rattle.bound_statements.specs.declared.statement.Output.TheVariants.{Columns, Aggregates}
use Rattle.bound_statements.specs.declared.statement.Bound.{Bound}
use Rattle.bound_statements.specs.declared.statement.Bound.TheVariants.{Select, Insert, Update, Delete, Begin, Commit, Rollback, Lock, SetVariable}
use Rattle.lock_modes.specs.declared.value.Value.{Value}

abbrev pub AllEffects : List Event → Type 0
AllEffects [] = Unit {0}
AllEffects (e ∷ es) = (is_effect e ≡ true) × AllEffects es

abbrev pub TellsEffects : Effect → Type 0
TellsEffects (Gives events writes) = AllEffects events
TellsEffects (Faults f) = Unit {0}

told-append : (es fs : List Event) → AllEffects es → AllEffects fs → AllEffects (es ++ fs)
told-append [] fs p q = q
told-append (e ∷ es) fs p q = (p.0, told-append es fs p.1 q)

told-rows : (columns : List ℕ) (es : List (RowPlace × Tuple)) → AllEffects (map (λ (e : RowPlace × Tuple). RowEvent (projected columns e.1)) es)
told-rows columns [] = tt
told-rows columns (e ∷ es) = (refl, told-rows columns es)

told-shown : (out : Output) (es : List (RowPlace × Tuple)) → TellsEffects (shown out es)
told-shown (Columns columns) es = told-append (map (λ (e : RowPlace × Tuple). RowEvent (projected columns e.1)) es) (Rows (length es) ∷ [])
    (told-rows columns es) (refl, tt)
told-shown (Aggregates each) es = on (all_aggregated each es)
  where
    on : (o : Option (List Value)) → TellsEffects (elim o [ None ↦ Faults OutOfRange | Some vs ↦ Gives (RowEvent vs ∷ Rows 1 ∷ []) [] ])
    on None = tt
    on (Some vs) = (refl, (refl, tt))

told-or_fault : (f : Fault) (o : Option (List Write)) (event : ℕ → Event) → ((n : ℕ) → is_effect (event n) ≡ true) → TellsEffects (or_fault f o event)
told-or_fault f None event h = tt
told-or_fault f (Some ws) event h = (h (length ws), tt)

told-matched : (o : Option (List (RowPlace × Tuple))) (then' : List (RowPlace × Tuple) → Effect) → ((es : List (RowPlace × Tuple)) → TellsEffects (then' es))
    → TellsEffects (elim o [ None ↦ Faults OutOfRange | Some es ↦ then' es ])
told-matched None then' h = tt
told-matched (Some es) then' h = h es

-- each event of an effect comes from one
pub effect-tells : (st : Bound) (rows : Rows') → TellsEffects (effect st rows)
unfolding effect
effect-tells (Select t key c by out l) rows = told-matched (matching c (entries (visible (Select t key c by out l) rows))) (λ es. shown out (sorted_by by es))
    (λ es. told-shown out (sorted_by by es))
effect-tells (Insert t (Some k) new) rows = told-or_fault Duplicate (placed t k new (visible (Insert t (Some k) new) rows)) Inserted (λ n. refl)
effect-tells (Insert t None new) rows = (refl, tt)
effect-tells (Update t key sets c) rows = told-matched (matching c (entries (visible (Update t key sets c) rows))) (λ es.
    or_fault OutOfRange (all_assigned sets es) Updated) (λ es. told-or_fault OutOfRange (all_assigned sets es) Updated (λ n. refl))
effect-tells (Delete t key c) rows = told-matched (matching c (entries (visible (Delete t key c) rows))) (λ es.
    counted Deleted (map (λ (e : RowPlace × Tuple). record { place = e.0; left = None }) es)) (λ es. (refl, tt))
effect-tells (Lock t m n) rows = (refl, tt)
effect-tells SetVariable rows = (refl, tt)
effect-tells (Begin level) rows = tt
effect-tells Commit rows = tt
effect-tells Rollback rows = tt
