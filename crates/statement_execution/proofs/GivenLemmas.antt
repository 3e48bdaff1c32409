-- The effect of each statement from what the code finds.
use Rattle.std.proofs.Common.{◌≡◌, refl, ap, ℕ, Bool, true, false, ◌&&◌, ◌==◌, List, [], ◌∷◌, map, Option, Some, None}
use Rattle.finite_maps.specs.Map.{keep, entries}
use Rattle.lock_modes.specs.RowPlace.{RowPlace}
use Rattle.lock_modes.specs.Rows.{Tuple, Rows'}
use Rattle.lock_modes.specs.declared.mode.Mode.{Mode}
use Rattle.lock_modes.specs.declared.value.Value.{Value}
use Rattle.events.specs.declared.event.Fault.TheVariants.{Duplicate, OutOfRange}
use Rattle.events.specs.declared.event.Event.TheVariants.{Inserted, Updated, Deleted, Locked, Set}
use Rattle.bound_statements.specs.Plan.{key_at, looks_at}
use Rattle.bound_statements.specs.declared.condition.Condition.{Condition}
use Rattle.bound_statements.specs.declared.statement.Assignment.{Assignment}
use Rattle.bound_statements.specs.declared.statement.SortKey.{SortKey}
use Rattle.bound_statements.specs.declared.statement.Level.{Level}
use Rattle.bound_statements.specs.declared.statement.Output.{Output}
use Rattle.bound_statements.specs.declared.statement.RowLock.{RowLock}
use Rattle.bound_statements.specs.declared.statement.Bound.TheVariants.{Select, Insert, Update, Delete, Begin, Commit, Rollback, Lock, SetVariable}
use Rattle.row_tables.specs.Layers.{Layers, IsOnlyWriterAt}
use Rattle.statement_evaluation.specs.Effect.{Effect, Gives, Faults, effect, matching, shown, sorted_by, all_assigned, placed, numbered, next_number, or_fault}
use Rattle.statement_evaluation.specs.Effect.{counted}
use Rattle.statement_evaluation.specs.Matched.{selected, updated, deleted}
use Rattle.statement_evaluation.proofs.ListLemmas.{Each-at, Each-map}
use Rattle.statement_evaluation.proofs.WriteLemmas.{looks-each}
use Rattle.statement_execution.specs.Run.{SeesAlone}
use Rattle.statement_execution.specs.Seen.{named, KeysAlone}
use Rattle.statement_execution.proofs.PlaceLemmas.{placed-visible}

matched-selected : (by : List SortKey) (out : Output) (o : Option (List (RowPlace × Tuple)))
    → (let f : Effect = elim o [ None ↦ Faults OutOfRange | Some es ↦ shown out (sorted_by by es) ] in f) ≡ selected by out o
matched-selected by out None = refl
matched-selected by out (Some es) = refl

matched-updated : (sets : List Assignment) (o : Option (List (RowPlace × Tuple)))
    → (let f : Effect = elim o [ None ↦ Faults OutOfRange | Some es ↦ or_fault OutOfRange (all_assigned sets es) Updated ] in f) ≡ updated sets o
matched-updated sets None = refl
matched-updated sets (Some es) = refl

matched-deleted : (o : Option (List (RowPlace × Tuple)))
    → (let f : Effect = elim o [ None ↦ Faults OutOfRange | Some es ↦ counted Deleted (map (λ (e : RowPlace × Tuple). record { place = e.0; left = None }) es) ]
    in f) ≡ deleted o
matched-deleted None = refl
matched-deleted (Some es) = refl

and-true : (b : Bool) → b ≡ (b && true)
and-true true = refl
and-true false = refl

module _ (rows : Rows') where
  pub effect-select : (t : ℕ) (key : Option Value) (c : Condition) (by : List SortKey) (out : Output) (l : RowLock) → effect (Select t key c by out l) rows
      ≡ selected by out (matching c (named t key rows))
  unfolding effect
  effect-select t key c by out l = matched-selected by out (matching c (named t key rows))

  pub effect-update : (t : ℕ) (key : Option Value) (sets : List Assignment) (c : Condition) → effect (Update t key sets c) rows
      ≡ updated sets (matching c (named t key rows))
  unfolding effect
  effect-update t key sets c = matched-updated sets (matching c (named t key rows))

  pub effect-delete : (t : ℕ) (key : Option Value) (c : Condition) → effect (Delete t key c) rows ≡ deleted (matching c (named t key rows))
  unfolding effect
  effect-delete t key c = matched-deleted (matching c (named t key rows))

  pub effect-placed : (t k : ℕ) (new : List Tuple) → effect (Insert t (Some k) new) rows ≡ or_fault Duplicate (placed t k new rows) Inserted
  unfolding effect
  effect-placed t k new = ap (λ o. or_fault Duplicate o Inserted) (placed-visible t k new rows)

  pub effect-numbered : (t : ℕ) (new : List Tuple) → effect (Insert t None new) rows
      ≡ or_fault Duplicate (Some (numbered t (next_number 1 (named t None rows)) new)) Inserted
  unfolding effect
  effect-numbered t new = λ i. counted Inserted (numbered t (next_number 1 (entries (keep (λ p. and-true (p.0 == t) i) rows))) new)

  pub effect-locked : (t : ℕ) (m : Mode) (n : Bool) → effect (Lock t m n) rows ≡ Gives (Locked ∷ []) []
  unfolding effect
  effect-locked t m n = refl

  pub effect-set : effect SetVariable rows ≡ Gives (Set ∷ []) []
  unfolding effect
  effect-set = refl

  pub effect-begin : (level : Option Level) → effect (Begin level) rows ≡ Gives [] []
  unfolding effect
  effect-begin level = refl

  pub effect-commit : effect Commit rows ≡ Gives [] []
  unfolding effect
  effect-commit = refl

  pub effect-rollback : effect Rollback rows ≡ Gives [] []
  unfolding effect
  effect-rollback = refl

-- no other session has written at the keys of new rows
pub keys-alone : (session t k : ℕ) (new : List Tuple) (l : Layers) → SeesAlone session (Insert t (Some k) new) l → KeysAlone session t k new l
keys-alone session t k new l sees =
    let P : Tuple → Type 0 = λ row. IsOnlyWriterAt session (t, key_at k row) l in
    λ i row h. Each-at P new (Each-map (λ row. looks_at (Insert t (Some k) new) (t, key_at k row)
    ≡ true) P (λ row h. sees (t, key_at k row) h) new (looks-each t k new)) i row h
