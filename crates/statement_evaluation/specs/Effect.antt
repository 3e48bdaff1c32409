-- What effect a statement has on the rows that it sees.
use Rattle.std.specs.Prelude.{ℕ, suc, Bool, true, false, List, [], ◌∷◌, ◌++◌, length, map, set, get_or, Option, Some, None, is_some, ℤ, pos, negsuc, ◌+ℤ◌, if◌then◌else◌}
use Rattle.std.proofs.Common.{Ordering, Less, Equal, Greater, is_gt}
use Rattle.std.specs.Ordering.{ordering_then}
use Rattle.finite_maps.specs.Map.{get, insert, keep, entries}
use Rattle.lock_modes.specs.RowPlace.{RowPlace}
pub use Rattle.lock_modes.specs.Rows.{Rows', Write}
use Rattle.lock_modes.specs.Value.{value_cmp}
use Rattle.lock_modes.specs.declared.value.Value.{Value}
use Rattle.lock_modes.specs.declared.value.Value.TheVariants.{Int, Text}
use Rattle.events.specs.declared.event.Fault.{Fault}
use Rattle.events.specs.declared.event.Fault.TheVariants.{Duplicate, OutOfRange}
use Rattle.events.specs.declared.event.Event.{Event}
use Rattle.events.specs.declared.event.Event.TheVariants.{Row as RowEvent, Rows, Inserted, Updated, Deleted, Locked, Set}
use Rattle.bound_statements.specs.declared.condition.Condition.{Condition}
use Rattle.bound_statements.specs.declared.statement.Aggregate.{Aggregate}
use Rattle.bound_statements.specs.declared.statement.Aggregate.TheVariants.{Count, Sum}
use Rattle.bound_statements.specs.declared.statement.Assignment.{Assignment}
use Rattle.bound_statements.specs.declared.statement.Order.{Order}
use Rattle.bound_statements.specs.declared.statement.Order.TheVariants.{Rises, Falls}
use Rattle.bound_statements.specs.declared.statement.SortKey.{SortKey}
use Rattle.bound_statements.specs.declared.statement.Output.{Output}
use Rattle.bound_statements.specs.declared.statement.Output.TheVariants.{Columns, Aggregates}
use Rattle.bound_statements.specs.declared.statement.Bound.{Bound}
use Rattle.bound_statements.specs.declared.statement.Bound.TheVariants.{Select, Insert, Update, Delete, Begin, Commit, Rollback, Lock, SetVariable}
use Rattle.bound_statements.specs.Plan.{Tuple, key_at, looks_at}
use Rattle.statement_evaluation.specs.Evaluate.{checked, holds}
use Rattle.statement_evaluation.specs.Evaluate.{value_of}

-- what a statement sees of the rows that its session sees: those that it looks at
abbrev pub visible : Bound → Rows' → Rows'
visible s rows = keep (looks_at s) rows

pub data Effect : Type 0 where
  Gives : (events : List Event) (writes : List Write) → Effect
  Faults : (fault : Fault) → Effect

-- the entries whose rows pass, or none where the test faults
abbrev pub consed : {A : Type 0} → A → Option (List A) → Option (List A)
consed x None = None
consed x (Some xs) = Some (x ∷ xs)

abbrev pub passed : {A : Type 0} → A → Option Bool → Option (List A) → Option (List A)
passed x None o = None
passed x (Some true) o = consed x o
passed x (Some false) o = o

abbrev pub matching : Condition → List (RowPlace × Tuple) → Option (List (RowPlace × Tuple))
matching c [] = Some []
matching c (e ∷ es) = passed e (holds e.1 c) (matching c es)

-- how two rows stand by one column after another, each rising or falling
abbrev pub in_order : Order → Ordering → Ordering
in_order Rises o = o
in_order Falls Less = Greater
in_order Falls Equal = Equal
in_order Falls Greater = Less

abbrev pub sort_cmp : List SortKey → Tuple → Tuple → Ordering
sort_cmp [] x y = Equal
sort_cmp (k ∷ ks) x y = ordering_then (in_order k.order (value_cmp (get_or x k.column (Int (pos 0))) (get_or y k.column (Int (pos 0))))) (sort_cmp ks x y)

-- the entry before the first that does not stand before it
abbrev pub put_in : List SortKey → RowPlace × Tuple → List (RowPlace × Tuple) → List (RowPlace × Tuple)
put_in ks e [] = e ∷ []
put_in ks e (x ∷ xs) = if is_gt (sort_cmp ks e.1 x.1) then x ∷ put_in ks e xs else e ∷ x ∷ xs

-- sorted, ties in the order before it, which is that of the keys
abbrev pub sorted_by : List SortKey → List (RowPlace × Tuple) → List (RowPlace × Tuple)
sorted_by ks [] = []
sorted_by ks (e ∷ es) = put_in ks e (sorted_by ks es)

abbrev pub projected : List ℕ → Tuple → Tuple
projected columns row = map (λ c. get_or row c (Int (pos 0))) columns

abbrev pub number_in : ℕ → Tuple → ℤ
number_in c row = elim (get_or row c (Int (pos 0))) [ Int z ↦ z | Text s ↦ pos 0 ]

abbrev pub total_of : ℕ → List (RowPlace × Tuple) → ℤ
total_of c [] = pos 0
total_of c (e ∷ es) = number_in c e.1 +ℤ total_of c es

abbrev pub aggregated : Aggregate → List (RowPlace × Tuple) → Option Value
aggregated Count es = Some (Int (pos (length es)))
aggregated (Sum c) es = checked (total_of c es)

abbrev pub consed_value : Option Value → Option (List Value) → Option (List Value)
consed_value None o = None
consed_value (Some v) None = None
consed_value (Some v) (Some vs) = Some (v ∷ vs)

abbrev pub all_aggregated : List Aggregate → List (RowPlace × Tuple) → Option (List Value)
all_aggregated [] es = Some []
all_aggregated (a ∷ as') es = consed_value (aggregated a es) (all_aggregated as' es)

abbrev pub shown : Output → List (RowPlace × Tuple) → Effect
shown (Columns columns) es = Gives (map (λ e. RowEvent (projected columns e.1)) es ++ Rows (length es) ∷ []) []
shown (Aggregates each) es = elim (all_aggregated each es) [ None ↦ Faults OutOfRange | Some vs ↦ Gives (RowEvent vs ∷ Rows 1 ∷ []) [] ]

-- the row with the columns set to what the expressions give in the old row
abbrev pub assigned : Tuple → List Assignment → Tuple → Option Tuple
assigned old [] row = Some row
assigned old (a ∷ as') row = elim (value_of old a.value) [ None ↦ None | Some v ↦ assigned old as' (set row a.column v) ]

abbrev pub consed_write : RowPlace → Option Tuple → Option (List Write) → Option (List Write)
consed_write p None o = None
consed_write p (Some row) None = None
consed_write p (Some row) (Some ws) = Some (record { place = p; left = Some row } ∷ ws)

abbrev pub all_assigned : List Assignment → List (RowPlace × Tuple) → Option (List Write)
all_assigned sets [] = Some []
all_assigned sets (e ∷ es) = consed_write e.0 (assigned e.1 sets e.1) (all_assigned sets es)

-- new rows at their keys, or none where a key is present, or comes twice
abbrev pub placed : ℕ → ℕ → List Tuple → Rows' → Option (List Write)
placed t k [] rows = Some []
placed t k (row ∷ more) rows =
    let p : RowPlace = (t, key_at k row) in
    if is_some (get rows p) then None else consed_write p (Some row) (placed t k more (insert rows p row))

-- one more than the greatest row number
abbrev pub next_number : ℕ → List (RowPlace × Tuple) → ℕ
next_number n [] = n
next_number n (e ∷ es) = next_number (elim e.0.1 [ Int z ↦ elim z [ pos m ↦ suc m | negsuc m ↦ n ] | Text s ↦ n ]) es

abbrev pub numbered : ℕ → ℕ → List Tuple → List Write
numbered t n [] = []
numbered t n (row ∷ more) = record { place = (t, Int (pos n)); left = Some row } ∷ numbered t (suc n) more

-- the writes, and how many they are
abbrev pub counted : (ℕ → Event) → List Write → Effect
counted event ws = Gives (event (length ws) ∷ []) ws

abbrev pub or_fault : Fault → Option (List Write) → (ℕ → Event) → Effect
or_fault f None event = Faults f
or_fault f (Some ws) event = counted event ws

-- the effect on the rows that the statement sees
abbrev pub effect_on : Bound → Rows' → Effect
effect_on (Select t key c by out lock) rows = elim (matching c (entries rows)) [ None ↦ Faults OutOfRange | Some es ↦ shown out (sorted_by by es) ]
effect_on (Insert t (Some k) new) rows = or_fault Duplicate (placed t k new rows) Inserted
effect_on (Insert t None new) rows = counted Inserted (numbered t (next_number 1 (entries rows)) new)
effect_on (Update t key sets c) rows = elim (matching c (entries rows))
    [ None ↦ Faults OutOfRange | Some es ↦ or_fault OutOfRange (all_assigned sets es) Updated ]
effect_on (Delete t key c) rows = elim (matching c (entries rows))
    [ None ↦ Faults OutOfRange | Some es ↦ counted Deleted (map (λ (e : RowPlace × Tuple). record { place = e.0; left = None }) es) ]
effect_on (Lock t m nowait) rows = Gives (Locked ∷ []) []
effect_on SetVariable rows = Gives (Set ∷ []) []
effect_on (Begin level) rows = Gives [] []
effect_on Commit rows = Gives [] []
effect_on Rollback rows = Gives [] []

-- the effect on the rows that the session sees
unfoldable pub effect : Bound → Rows' → Effect
effect s rows = effect_on s (visible s rows)
