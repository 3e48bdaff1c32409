-- What statements that fit the tables take of rows that fit them, and the rows that they leave.
use Rattle.std.proofs.Common.{◌≡◌, ◌≢◌, refl, sym, ap, ◌∙◌, subst, ℕ, suc, ◌<◌, arith, Bool, true, false, cond, List, [], ◌∷◌, length, get_or, set}
use Rattle.std.proofs.Common.{Option, Some, None, All, ℤ, pos, negsuc, ⊎_elim}
use Rattle.std.proofs.Common.{length-set, get_or-set_same, get_or-set_other}
use Rattle.std.specs.Prelude.{◌+ℤ◌, ◌-ℤ◌, ◌*ℤ◌, ⊤, ◌==◌, ◌&&◌, ◌||◌, map}
use Rattle.std.specs.List.{filter}
use Rattle.std.specs.FinMap.Entries.{put, by_order}
use Rattle.std.proofs.Common.{Less, Equal, Greater}
use Rattle.std.proofs.lemmas.Bool.{eqb-true, eq-eqb}
use Rattle.std.proofs.lemmas.List.Elements.{All-head, All-tail}
use Rattle.finite_maps.specs.Map.{Order, Map, empty, entries, insert, keep, remove}
use Rattle.lock_modes.specs.RowPlace.{RowPlace}
use Rattle.lock_modes.specs.Rows.{Tuple, Rows', Write}
use Rattle.lock_modes.specs.declared.value.Value.{Value}
use Rattle.lock_modes.specs.declared.value.Value.TheVariants.{Int, Text}
use Rattle.row_tables.specs.Overlay.{Overlay, laid, lay_entries, lay, written}
use Rattle.bound_statements.specs.Plan.{key_at, at_key, looks_at}
use Rattle.bound_statements.specs.declared.condition.Condition.{Condition, more_of-Condition, end_of-Condition}
use Rattle.bound_statements.specs.declared.condition.Condition.TheVariants.{Always, Compares, Not', And', Or'}
use Rattle.bound_statements.specs.declared.expression.AddSign.{AddSign}
use Rattle.bound_statements.specs.declared.expression.AddSign.TheVariants.{Plus, Minus}
use Rattle.bound_statements.specs.declared.expression.Expression.{Expression}
use Rattle.bound_statements.specs.declared.expression.Operand.{Operand}
use Rattle.bound_statements.specs.declared.expression.Operand.TheVariants.{Literal, Column}
use Rattle.bound_statements.specs.declared.expression.Product.{Product}
use Rattle.bound_statements.specs.declared.expression.SignedProduct.{SignedProduct}
use Rattle.bound_statements.specs.declared.statement.Aggregate.{Aggregate}
use Rattle.bound_statements.specs.declared.statement.Aggregate.TheVariants.{Count, Sum}
use Rattle.bound_statements.specs.declared.statement.Assignment.{Assignment}
use Rattle.bound_statements.specs.declared.statement.Bound.{Bound}
use Rattle.bound_statements.specs.declared.statement.Bound.TheVariants.{Select, Insert, Update, Delete, Begin, Commit, Rollback, Lock, SetVariable}
use Rattle.bound_statements.specs.declared.statement.Output.{Output}
use Rattle.bound_statements.specs.declared.statement.Output.TheVariants.{Columns, Aggregates}
use Rattle.binding_model.specs.declared.tables.ColumnType.{ColumnType}
use Rattle.binding_model.specs.declared.tables.ColumnType.TheVariants.{Number}
use Rattle.binding_model.specs.declared.tables.Table.{Table}
use Rattle.bound_specs.specs.Fits.{IsThere, OperandIs, FactorsAre, TermsAre, ExpressionIs, ComparisonFits, ConditionFits, AggregateFits, OutputFits}
use Rattle.bound_specs.specs.Fits.{AssignmentFits, Takes, IsColumn, ColumnOf, ValueIn, RowFits, OfTable, Fits}
use Rattle.binding_model.specs.Statements.{sets_column, sets_key}
use Rattle.binding_model.specs.Tables.{no_table, key_column, type_of}
use Rattle.binding_model.specs.Types.{value_type}
use Rattle.events.specs.declared.event.Fault.TheVariants.{Duplicate, OutOfRange}
use Rattle.events.specs.declared.event.Event.TheVariants.{Inserted, Updated, Deleted}
use Rattle.statement_evaluation.specs.Evaluate.{in_range, checked, on_numbers, operand_value, times_each, product_value, plus_or_minus, plus_each, value_of}
use Rattle.statement_evaluation.specs.Effect.{visible, effect, matching, assigned, all_assigned, placed, next_number, numbered, or_fault}
use Rattle.statement_evaluation.specs.Effect.{counted}
use Rattle.statement_evaluation.proofs.ListLemmas.{Each, Each-map, Each-at}
use Rattle.statement_evaluation.proofs.WriteLemmas.{OnSome, OnGives, leaves, any-some, each-kept, each-any, each-matching, each-all_assigned, each-placed}
use Rattle.statement_evaluation.proofs.WriteLemmas.{each-deleted, on-or_fault, on-matched, on-selected}
use Rattle.machine_model.specs.Typed.{LiesAt, EntryFits, RowsFit, LeftFits}
use Rattle.machine_model.proofs.Basics.{cases-eq, both_true}

-- ---- what is taken of columns, where more is known of them

module _ (Has Knows : ℕ → ColumnType → Type 0) (more : (c : ℕ) (kind : ColumnType) → Has c kind → Knows c kind) where
  there : (c : ℕ) → IsThere Has c → IsThere Knows c
  there c h = (h.0, more c h.0 h.1)

  operand : (kind : ColumnType) (o : Operand) → OperandIs Has kind o → OperandIs Knows kind o
  operand kind (Literal v) h = h
  operand kind (Column c) h = more c kind h

  operands : (os : List Operand) → All (OperandIs Has Number) os → All (OperandIs Knows Number) os
  operands os h = λ i d lt. operand Number (get_or os i d) (h i d lt)

  factors : (kind : ColumnType) (o : Operand) (os : List Operand) → FactorsAre Has kind o os → FactorsAre Knows kind o os
  factors kind o [] h = operand kind o h
  factors kind o (p ∷ ps) h = (h.0, (operand Number o h.1.0, operands (p ∷ ps) h.1.1))

  terms : (kind : ColumnType) (p : Product) (ss : List SignedProduct) → TermsAre Has kind p ss → TermsAre Knows kind p ss
  terms kind p [] h = factors kind p.first p.more h
  terms kind p (s ∷ ss) h = (
    h.0,
    (
      factors Number p.first p.more h.1.0,
      λ i d lt.
          factors Number (get_or (s ∷ ss) i d).product.first (get_or (s ∷ ss) i d).product.more (h.1.1 i d lt),
    ),
  )

  expression : (kind : ColumnType) (e : Expression) → ExpressionIs Has kind e → ExpressionIs Knows kind e
  expression kind e h = terms kind e.first e.more h

  comparison : (a b : Expression) → ComparisonFits Has a b → ComparisonFits Knows a b
  comparison a b h = (h.0, (expression h.0 a h.1.0, expression h.0 b h.1.1))

  condition : (c : Condition) → ConditionFits Has c → ConditionFits Knows c
  condition Always h = tt
  condition (Compares a by b) h = comparison a b h
  condition (Not' _ (more_of-Condition c end_of-Condition)) h = condition c h
  condition (And' _ (more_of-Condition a end_of-Condition) _ (more_of-Condition b end_of-Condition)) h = (condition a h.0, condition b h.1)
  condition (Or' _ (more_of-Condition a end_of-Condition) _ (more_of-Condition b end_of-Condition)) h = (condition a h.0, condition b h.1)

  aggregate : (a : Aggregate) → AggregateFits Has a → AggregateFits Knows a
  aggregate Count h = tt
  aggregate (Sum c) h = more c Number h

  output : (out : Output) → OutputFits Has out → OutputFits Knows out
  output (Columns cs) h = λ i d lt. there (get_or cs i d) (h i d lt)
  output (Aggregates as') h = λ i d lt. aggregate (get_or as' i d) (h i d lt)

  assignment : (a : Assignment) → AssignmentFits Has a → AssignmentFits Knows a
  assignment a h = (h.0, (more a.column h.0 h.1.0, expression h.0 a.value h.1.1))

  takes : (st : Bound) → Takes Has st → Takes Knows st
  takes (Select n key c by out l) h = (output out h.0, (λ i d lt. there (get_or by i d).column (h.1.0 i d lt), condition c h.1.1))
  takes (Update n key sets c) h = (λ i d lt. assignment (get_or sets i d) (h.0 i d lt), condition c h.1)
  takes (Delete n key c) h = condition c h
  takes (Insert n key rows) h = tt
  takes (Lock n mode r) h = tt
  takes (Begin level) h = tt
  takes Commit h = tt
  takes Rollback h = tt
  takes SetVariable h = tt

-- a row that fits has a value of its type in each column
value-in : (t : Table) (row : Tuple) → RowFits t row → (c : ℕ) (kind : ColumnType) → ColumnOf t c kind → ValueIn row c kind
value-in t row fits c kind h = (omega (arith, h.0, fits.0), fits.1 c h.0 ∙ h.1)

-- ---- entries of maps

module _ {K X : Type 0} (o : Order K) (Q : K × X → Type 0) where
  each-put : (k : K) (v : X) (es : List (K × X)) → Q (k, v) → Each Q es → Each Q (put o.cmp k v es)
  each-put k v [] q h = (q, tt)
  each-put k v (e ∷ es) q h =
      elim (o.cmp k e.0) as (λ r. o.cmp k e.0 ≡ r → Each Q (by_order r ((k, v) ∷ e ∷ es) ((e.0, v) ∷ es) (e ∷ put o.cmp k v es))) [
        | Less ↦ λ is. (q, h)
        | Equal ↦ λ is. (subst (λ x. Q (x, v)) (o.same k e.0 is) q, h.1)
        | Greater ↦ λ is. (h.0, each-put k v es q h.1)
      ] refl

  each-filter : (test : K × X → Bool) (es : List (K × X)) → Each Q es → Each Q (filter test es)
  each-filter test [] h = tt
  each-filter test (e ∷ es) h =
      elim (test e) as (λ b. Each Q (cond b (e ∷ filter test es) (filter test es))) [ true ↦ (h.0, each-filter test es h.1) | false ↦ each-filter test es h.1 ]

  pub each-insert : (m : Map o X) (k : K) (v : X) → Q (k, v) → Each Q (entries m) → Each Q (entries (insert m k v))
  unfolding entries insert
  each-insert m k v q h = each-put k v m.list q h

  pub each-keep : (test : K → Bool) (m : Map o X) → Each Q (entries m) → Each Q (entries (keep test m))
  unfolding entries keep
  each-keep test m h = each-filter (λ e. test e.0) m.list h

  pub each-remove : (m : Map o X) (k : K) → Each Q (entries m) → Each Q (entries (remove m k))
  unfolding remove
  each-remove m k h = each-keep _ m h

-- each, by its place in the list
pub each-all : {A : Type 0} (P : A → Type 0) (xs : List A) → Each P xs → All P xs
each-all P xs h = λ i d lt. Each-at P xs h i d lt

pub all-each : {A : Type 0} (P : A → Type 0) (xs : List A) → All P xs → Each P xs
all-each P [] h = tt
all-each P (x ∷ xs) h = (All-head P x xs h, all-each P xs (All-tail P x xs h))

each-both : {A : Type 0} (P Q R : A → Type 0) → ((x : A) → P x → Q x → R x) → (xs : List A) → Each P xs → Each Q xs → Each R xs
each-both P Q R f [] p q = tt
each-both P Q R f (x ∷ xs) p q = (f x p.0 q.0, each-both P Q R f xs p.1 q.1)

pub each-empty : {K X : Type 0} (o : Order K) (Q : K × X → Type 0) → Each Q (entries (empty {X = X} {o = o}))
unfolding entries empty
each-empty o Q = tt

-- ---- values have their types

abbrev IsA : ColumnType → Option Value → Type 0
IsA kind o = OnSome o (λ v. value_type v ≡ kind)

checked-number : (z : ℤ) → IsA Number (checked z)
checked-number z = elim (in_range z) as (λ b. IsA Number (cond b (Some (Int z)) None)) [ true ↦ refl | false ↦ tt ]

computed-number : (f : ℤ → ℤ → ℤ) (v w : Option Value) → IsA Number (on_numbers f v w)
computed-number f None w = tt
computed-number f (Some (Text s)) w = tt
computed-number f (Some (Int x)) None = tt
computed-number f (Some (Int x)) (Some (Text t)) = tt
computed-number f (Some (Int x)) (Some (Int y)) = checked-number (f x y)

module _ (row : Tuple) where
  operand-is : (kind : ColumnType) (o : Operand) → OperandIs (ValueIn row) kind o → IsA kind (operand_value row o)
  operand-is kind (Literal v) h = h
  operand-is kind (Column c) h = h.1

  times-number : (v : Option Value) (os : List Operand) → IsA Number v → IsA Number (times_each row v os)
  times-number v [] h = h
  times-number v (o ∷ os) h = times-number (on_numbers (λ x y. x *ℤ y) v (operand_value row o)) os (computed-number (λ x y. x *ℤ y) v (operand_value row o))

  product-is : (kind : ColumnType) (o : Operand) (os : List Operand) → FactorsAre (ValueIn row) kind o os → IsA kind (times_each row (operand_value row o) os)
  product-is kind o [] h = operand-is kind o h
  product-is kind o (p ∷ ps) h =
      subst (λ k. IsA k (times_each row (operand_value row o) (p ∷ ps))) (sym h.0)
      (times-number _ ps (computed-number (λ x y. x *ℤ y) (operand_value row o) (operand_value row p)))

  sum-number : (sign : AddSign) (v w : Option Value) → IsA Number (plus_or_minus sign v w)
  sum-number Plus v w = computed-number (λ x y. x +ℤ y) v w
  sum-number Minus v w = computed-number (λ x y. x -ℤ y) v w

  plus-number : (v : Option Value) (ss : List SignedProduct) → IsA Number v → IsA Number (plus_each row v ss)
  plus-number v [] h = h
  plus-number v (s ∷ ss) h = plus-number (plus_or_minus s.sign v (product_value row s.product)) ss (sum-number s.sign v (product_value row s.product))

  terms-are : (kind : ColumnType) (p : Product) (ss : List SignedProduct) → TermsAre (ValueIn row) kind p ss → IsA kind (plus_each row (product_value row p) ss)
  terms-are kind p [] h = product-is kind p.first p.more h
  terms-are kind p (s ∷ ss) h =
      subst (λ k. IsA k (plus_each row (product_value row p) (s ∷ ss))) (sym h.0)
      (plus-number _ ss (sum-number s.sign (product_value row p) (product_value row s.product)))

  value-is : (kind : ColumnType) (e : Expression) → ExpressionIs (ValueIn row) kind e → IsA kind (value_of row e)
  value-is kind e h = terms-are kind e.first e.more h

-- ---- rows that are set

set-fits : (t : Table) (row : Tuple) (c : ℕ) (kind : ColumnType) (v : Value) → RowFits t row → ColumnOf t c kind → value_type v ≡ kind → RowFits t (set row c v)
set-fits t row c kind v fits h is = (length-set row c v ∙ fits.0, λ d lt. ⊎_elim (same d lt) (other d lt) (cases-eq d c))
  where
    here : value_type (get_or (set row c v) c (Int (pos 0))) ≡ type_of t c
    here = ap value_type (get_or-set_same row c v (Int (pos 0)) (omega (arith, h.0, fits.0))) ∙ is ∙ sym h.1

    same : (d : ℕ) → IsColumn t d → d ≡ c → value_type (get_or (set row c v) d (Int (pos 0))) ≡ type_of t d
    same d lt e = subst (λ k. value_type (get_or (set row c v) k (Int (pos 0))) ≡ type_of t k) (sym e) here

    other : (d : ℕ) → IsColumn t d → d ≢ c → value_type (get_or (set row c v) d (Int (pos 0))) ≡ type_of t d
    other d lt ne = ap value_type (get_or-set_other row c d v (Int (pos 0)) ne) ∙ fits.1 d lt

assigned-fits : (t : Table) (old : Tuple) → RowFits t old → (sets : List Assignment) (row : Tuple) → RowFits t row → All (AssignmentFits (ColumnOf t)) sets
    → OnSome (assigned old sets row) (RowFits t)
assigned-fits t old fits [] row now all = now
assigned-fits t old fits (a ∷ as') row now all =
    at (value_of old a.value) (value-is old h.0 a.value (expression (ColumnOf t) (ValueIn old) (value-in t old fits) h.0 a.value h.1.1))
    (λ v is. assigned-fits t old fits as' (set row a.column v) (set-fits t row a.column h.0 v now h.1.0 is) (All-tail (AssignmentFits (ColumnOf t)) a as' all))
  where
    h : AssignmentFits (ColumnOf t) a
    h = All-head (AssignmentFits (ColumnOf t)) a as' all

    at : (o : Option Value) → IsA h.0 o → ((v : Value) → value_type v ≡ h.0 → OnSome (assigned old as' (set row a.column v)) (RowFits t))
        → OnSome (let x : Option Tuple = elim o [ None ↦ None | Some v ↦ assigned old as' (set row a.column v) ] in x) (RowFits t)
    at None is rec = tt
    at (Some v) is rec = rec v is

on-both : (o : Option Tuple) (P Q : Tuple → Type 0) → OnSome o P → OnSome o Q → OnSome o (λ row. P row × Q row)
on-both None P Q p q = tt
on-both (Some row) P Q p q = (p, q)

-- a row that is set elsewhere has its key as before
keeps-key : (P : Value → Type 0) (old : Tuple) (key : ℕ) (sets : List Assignment) (row : Tuple) → sets_column key sets ≡ false → P (key_at key row)
    → OnSome (assigned old sets row) (λ r. P (key_at key r))
keeps-key P old key [] row e p = p
keeps-key P old key (a ∷ as') row e p = at (a.column == key) refl e (value_of old a.value) (λ v. keeps-key P old key as' (set row a.column v))
  where
    other : (a.column == key) ≡ false → key ≢ a.column
    other is same = absurd (cc (sym is ∙ eq-eqb a.column key (sym same)))

    at : (b : Bool) → (a.column == key) ≡ b → (b || sets_column key as') ≡ false → (o : Option Value)
        → ((v : Value) → sets_column key as' ≡ false → P (key_at key (set row a.column v))
        → OnSome (assigned old as' (set row a.column v)) (λ r. P (key_at key r)))
        → OnSome (let x : Option Tuple = elim o [ None ↦ None | Some v ↦ assigned old as' (set row a.column v) ] in x) (λ r. P (key_at key r))
    at true is h o rec = absurd (cc h)
    at false is h None rec = tt
    at false is h (Some v) rec = rec v h (subst P (sym (get_or-set_other row a.column key v (Int (pos 0)) (other is))) p)

lies-on : (key : Option ℕ) (at : Value) (old : Tuple) (sets : List Assignment) → sets_key key sets ≡ false → LiesAt key at old
    → OnSome (assigned old sets old) (LiesAt key at)
lies-on (Some k) at old sets e is = keeps-key (λ v. at ≡ v) old k sets old e is
lies-on None at old sets e is = any-some (assigned old sets old) (LiesAt None at old) is

-- row numbers count from 1
pub counts : (n : ℕ) (es : List (RowPlace × Tuple)) → (m : ℕ) × (next_number (suc n) es ≡ suc m)
counts n [] = (n, refl)
counts n (e ∷ es) = at e.0.1 (λ k. counts k es)
  where
    at : (v : Value) → ((k : ℕ) → (m : ℕ) × (next_number (suc k) es ≡ suc m))
        → (m : ℕ) × (next_number (elim v [ Int z ↦ elim z [ pos k ↦ suc k | negsuc k ↦ suc n ] | Text s ↦ suc n ]) es ≡ suc m)
    at (Int (pos k)) rec = rec k
    at (Int (negsuc k)) rec = rec n
    at (Text s) rec = rec n

each-counted : (R : Write → Type 0) (t n : ℕ) (new : List Tuple) → Each (λ row. (m : ℕ) → R (leaves (t, Int (pos (suc m))) row)) new
    → Each R (numbered t (suc n) new)
each-counted R t n [] h = tt
each-counted R t n (row ∷ more) h = (h.0 n, each-counted R t (suc n) more h.1)

-- ---- no default is met

module _ (tables : List Table) where
  abbrev pub EachFits : Rows' → Type 0
  EachFits rows = Each (EntryFits tables) (entries rows)

  -- the row at a place of this table is one of it
  abbrev IsRowOf : ℕ → Value → Tuple → Type 0
  IsRowOf n at row = let t = get_or tables n no_table in RowFits t row × LiesAt (key_column t) at row

  abbrev pub IsOf : ℕ → RowPlace × Tuple → Type 0
  IsOf n e = (e.0.0 ≡ n) × IsRowOf n e.0.1 e.1

  -- a statement looks at rows of its table alone
  pub seen-fits : (st : Bound) (n : ℕ) → ((p : RowPlace) → looks_at st p ≡ true → p.0 ≡ n) → (rows : Rows') → EachFits rows
      → Each (IsOf n) (entries (visible st rows))
  seen-fits st n own rows h =
      each-both (λ (e : RowPlace × Tuple). looks_at st e.0 ≡ true) (EntryFits tables) (IsOf n)
      (λ e look fits. (own e.0 look, subst (λ k. IsRowOf k e.0.1 e.1) (own e.0 look) fits.1))
      (entries (visible st rows)) (each-kept (looks_at st) rows) (each-keep _ (EntryFits tables) (looks_at st) rows h)

  in-table : (n : ℕ) (p : RowPlace) (b : Bool) → ((p.0 == n) && b) ≡ true → p.0 ≡ n
  in-table n p b e = eqb-true p.0 n (both_true (p.0 == n) b e).0

  taken : (st : Bound) (n : ℕ) → ((p : RowPlace) → looks_at st p ≡ true → p.0 ≡ n) → OfTable tables n (λ t. Takes (ColumnOf t) st) → (rows : Rows')
      → EachFits rows
      → Each (λ (e : RowPlace × Tuple). Takes (ValueIn e.1) st) (entries (visible st rows))
  taken st n own fits rows h =
      let t = get_or tables n no_table in
      Each-map (IsOf n) (λ (e : RowPlace × Tuple). Takes (ValueIn e.1) st) (λ e is. takes (ColumnOf t) (ValueIn e.1) (value-in t e.1 is.1.0) st fits.1)
      (entries (visible st rows)) (seen-fits st n own rows h)

  each-taken : (st : Bound) → Fits tables st → (rows : Rows') → EachFits rows
      → Each (λ (e : RowPlace × Tuple). Takes (ValueIn e.1) st) (entries (visible st rows))
  each-taken (Select n key c by out l) fits rows h = taken (Select n key c by out l) n (λ p e. in-table n p (at_key key p.1) e) fits rows h
  each-taken (Update n key sets c) fits rows h = taken (Update n key sets c) n (λ p e. in-table n p (at_key key p.1) e) (fits.0, fits.1.0) rows h
  each-taken (Delete n key c) fits rows h = taken (Delete n key c) n (λ p e. in-table n p (at_key key p.1) e) fits rows h
  each-taken (Insert n key new) fits rows h = each-any (λ (e : RowPlace × Tuple). ⊤) (λ e. tt) (entries (visible (Insert n key new) rows))
  each-taken (Lock n mode r) fits rows h = each-any (λ (e : RowPlace × Tuple). ⊤) (λ e. tt) (entries (visible (Lock n mode r) rows))
  each-taken (Begin level) fits rows h = each-any (λ (e : RowPlace × Tuple). ⊤) (λ e. tt) (entries (visible (Begin level) rows))
  each-taken Commit fits rows h = each-any (λ (e : RowPlace × Tuple). ⊤) (λ e. tt) (entries (visible Commit rows))
  each-taken Rollback fits rows h = each-any (λ (e : RowPlace × Tuple). ⊤) (λ e. tt) (entries (visible Rollback rows))
  each-taken SetVariable fits rows h = each-any (λ (e : RowPlace × Tuple). ⊤) (λ e. tt) (entries (visible SetVariable rows))

  -- ---- what statements leave

  abbrev pub WriteFits : Write → Type 0
  WriteFits w = LeftFits tables w.place w.left

  abbrev pub OverlayFits : Overlay → Type 0
  OverlayFits o = Each (λ (e : RowPlace × Option Tuple). LeftFits tables e.0 e.1) (entries o)

  pub written-fits : (ws : List Write) (o : Overlay) → Each WriteFits ws → OverlayFits o → OverlayFits (written ws o)
  written-fits [] o h all = all
  written-fits (w ∷ ws) o h all =
      written-fits ws (insert o w.place w.left) h.1 (each-insert _ (λ (e : RowPlace × Option Tuple). LeftFits tables e.0 e.1) o w.place w.left h.0 all)

  laid-fits : (p : RowPlace) (left : Option Tuple) (rows : Rows') → LeftFits tables p left → EachFits rows → EachFits (laid p left rows)
  laid-fits p None rows h all = each-remove _ (EntryFits tables) rows p all
  laid-fits p (Some row) rows h all = each-insert _ (EntryFits tables) rows p row h all

  entries-fit : (es : List (RowPlace × Option Tuple)) (rows : Rows') → Each (λ (e : RowPlace × Option Tuple). LeftFits tables e.0 e.1) es → EachFits rows
      → EachFits (lay_entries es rows)
  entries-fit [] rows h all = all
  entries-fit (e ∷ es) rows h all = laid-fits e.0 e.1 (lay_entries es rows) h.0 (entries-fit es rows h.1 all)

  pub lay-fits : (o : Overlay) (rows : Rows') → OverlayFits o → EachFits rows → EachFits (lay o rows)
  unfolding lay
  lay-fits o rows h all = entries-fit (entries o) rows h all

  -- a new row lies where its table says: at its key
  keyed : (n k : ℕ) (new : List Tuple) → OfTable tables n (λ t. (Some k ≡ key_column t) × All (RowFits t) new)
      → Each (λ row. WriteFits (leaves (n, key_at k row) row)) new
  keyed n k new fits =
      Each-map (RowFits (get_or tables n no_table)) (λ row. WriteFits (leaves (n, key_at k row) row))
      (λ row h. (fits.0, (h, subst (λ key. LiesAt key (key_at k row) row) fits.1.0 refl))) new (all-each (RowFits (get_or tables n no_table)) new fits.1.1)

  -- and where there is none at a row number
  keyless : (n : ℕ) (new : List Tuple) → OfTable tables n (λ t. (None ≡ key_column t) × All (RowFits t) new)
      → Each (λ row. (m : ℕ) → WriteFits (leaves (n, Int (pos (suc m))) row)) new
  keyless n new fits =
      Each-map (RowFits (get_or tables n no_table)) (λ row. (m : ℕ) → WriteFits (leaves (n, Int (pos (suc m))) row))
      (λ row h m. (fits.0, (h, subst (λ key. LiesAt key (Int (pos (suc m))) row) fits.1.0 (m, refl)))) new
      (all-each (RowFits (get_or tables n no_table)) new fits.1.1)

  left-fits : (n : ℕ) (e : RowPlace × Tuple) → n < length tables → e.0.0 ≡ n → (o : Option Tuple) → OnSome o (IsRowOf n e.0.1)
      → OnSome o (λ row. WriteFits (leaves e.0 row))
  left-fits n e lt is None h = tt
  left-fits n e lt is (Some row) h = subst (λ k. OfTable tables k (λ t. RowFits t row × LiesAt (key_column t) e.0.1 row)) (sym is) (lt, h)

  updated-fits : (n : ℕ) (key : Option Value) (sets : List Assignment) (c : Condition) → Fits tables (Update n key sets c) → (e : RowPlace × Tuple) → IsOf n e
      → OnSome (assigned e.1 sets e.1) (λ row. WriteFits (leaves e.0 row))
  updated-fits n key sets c fits e is =
      let t = get_or tables n no_table in
      left-fits n e fits.0 is.0 (assigned e.1 sets e.1)
      (on-both (assigned e.1 sets e.1) (RowFits t) (LiesAt (key_column t) e.0.1) (assigned-fits t e.1 is.1.0 sets e.1 is.1.0 fits.1.0.0)
      (lies-on (key_column t) e.0.1 e.1 sets fits.1.1 is.1.1))

  -- what a statement that fits writes over rows that fit, fits
  pub effect-fits : (st : Bound) (rows : Rows') → Fits tables st → EachFits rows → OnGives (effect st rows) (Each WriteFits)
  unfolding effect
  effect-fits (Select n key c by out l) rows fits h = on-selected WriteFits by out (matching c (entries (visible (Select n key c by out l) rows)))
  effect-fits (Insert n (Some k) new) rows fits h =
      on-or_fault WriteFits Duplicate (placed n k new (visible (Insert n (Some k) new) rows)) Inserted (each-placed WriteFits n k new _ (keyed n k new fits))
  effect-fits (Insert n None new) rows fits h =
      let next = counts 0 (entries (visible (Insert n None new) rows)) in
      subst (λ m. Each WriteFits (numbered n m new)) (sym next.1) (each-counted WriteFits n next.0 new (keyless n new fits))
  effect-fits (Update n key sets c) rows fits h =
      let st : Bound = Update n key sets c in
      on-matched WriteFits (IsOf n) (matching c (entries (visible st rows))) (λ es. or_fault OutOfRange (all_assigned sets es) Updated)
      (λ es all. on-or_fault WriteFits OutOfRange (all_assigned sets es) Updated
      (each-all_assigned WriteFits (IsOf n) sets (updated-fits n key sets c fits) es all))
      (each-matching (IsOf n) c _ (seen-fits st n (λ p e. in-table n p (at_key key p.1) e) rows h))
  effect-fits (Delete n key c) rows fits h =
      on-matched WriteFits (λ (e : RowPlace × Tuple). ⊤) (matching c (entries (visible (Delete n key c) rows)))
      (λ es. counted Deleted (map (λ (e : RowPlace × Tuple). record { place = e.0; left = None }) es))
      (λ es all. each-deleted WriteFits es all)
      (each-matching (λ (e : RowPlace × Tuple). ⊤) c _ (each-any (λ (e : RowPlace × Tuple). ⊤) (λ e. tt) (entries (visible (Delete n key c) rows))))
  effect-fits (Lock n mode r) rows fits h = tt
  effect-fits SetVariable rows fits h = tt
  effect-fits (Begin level) rows fits h = tt
  effect-fits Commit rows fits h = tt
  effect-fits Rollback rows fits h = tt

-- evaluation over rows that fit meets no default
pub no-default : (tables : List Table) (st : Bound) (rows : Rows') → Fits tables st → RowsFit tables rows
    → All (λ (e : RowPlace × Tuple). Takes (ValueIn e.1) st) (entries (visible st rows))
no-default tables st rows fits h =
    each-all (λ (e : RowPlace × Tuple). Takes (ValueIn e.1) st) (entries (visible st rows))
    (each-taken tables st fits rows (all-each (EntryFits tables) (entries rows) h))
