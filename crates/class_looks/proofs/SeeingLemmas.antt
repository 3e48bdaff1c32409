-- What is seen of the rows that a rank leaves is what the SELECT sees in the world behind it.
use Rattle.std.proofs.Common.{◌≡◌, refl, sym, ap, ◌∙◌, ◌↔◌, ℕ, zero, suc, ◌+◌, ◌<◌, Bool, true, false, cond, ◌&&◌, ◌==◌, List, [], ◌∷◌, length, Option}
use Rattle.std.proofs.Common.{Some, None, option_map, arith, eqb-true, eq-eqb, map, get_or, drop, drop-cons, add-one, ◌++◌, pos, ◌+ℤ◌, is_gt, if◌then◌else◌}
use Rattle.std.specs.Prelude.{Result, Ok, Err, IfOk}
use Rattle.std.specs.Ordering.{nat_cmp, eq_by_cmp}
use Rattle.std.specs.Cmp.{unsigned_tied, both_ways}
use Rattle.std.specs.FinMap.Entries.{where_key}
use Rattle.finite_maps.specs.Map.{entries, keep}
use Rattle.lock_modes.specs.RowPlace.{RowPlace, place_cmp}
use Rattle.lock_modes.specs.Rows.{Tuple, Rows'}
use Rattle.lock_modes.specs.declared.value.Value.{Value}
use Rattle.lock_modes.specs.declared.value.Value.TheVariants.{Int}
use Rattle.row_tables.specs.Layers.{rows_in, rows_of}
use Rattle.bound_statements.specs.declared.statement.Bound.{Bound}
use Rattle.bound_statements.specs.declared.statement.Bound.TheVariants.{Select, Insert, Update, Delete, Begin, Commit, Rollback, Lock, SetVariable}
use Rattle.bound_statements.specs.Plan.{looks_at, at_key}
use Rattle.bound_statements.specs.declared.condition.Condition.{Condition}
use Rattle.bound_statements.specs.declared.statement.Aggregate.{Aggregate}
use Rattle.bound_statements.specs.declared.statement.Aggregate.TheVariants.{Count, Sum}
use Rattle.bound_statements.specs.declared.statement.Output.{Output}
use Rattle.bound_statements.specs.declared.statement.Output.TheVariants.{Columns, Aggregates}
use Rattle.bound_statements.specs.declared.statement.RowLock.{RowLock}
use Rattle.bound_statements.specs.declared.statement.SortKey.{SortKey}
use Rattle.statement_evaluation.specs.Effect.{Effect, Gives, Faults, effect, passed, matching, sort_cmp, put_in, sorted_by, projected}
use Rattle.statement_evaluation.specs.Effect.{number_in, total_of, aggregated, consed_value, all_aggregated, shown}
use Rattle.statement_evaluation.specs.Evaluate.{checked, holds}
use Rattle.statement_evaluation.specs.Matched.{selected}
use Rattle.statement_evaluation.proofs.ListLemmas.{onto, onto-passed}
use Rattle.events.specs.declared.event.Event.{Event}
use Rattle.events.specs.declared.event.Event.TheVariants.{Row as RowEvent, Rows, Failed}
use Rattle.events.specs.declared.event.Fault.TheVariants.{OutOfRange}
use Rattle.binding_model.specs.Tables.{no_table, key_column}
use Rattle.binding_model.specs.declared.tables.Table.{Table}
use Rattle.bound_specs.specs.Spec.{Spec}
use Rattle.machine_model.specs.World.{World}
use Rattle.line_moments.specs.Left.{left_from, left_in}
use Rattle.order_classes.specs.declared.shows.Shows.{Shows}
use Rattle.order_classes.specs.Shows.{unnumbered, seen_by, seen, shows_in, world_of_line, shows_of_line}
use Rattle.order_classes.specs.Looks.{HasKeyFor, IsLook, look_in, look_behind, one_row, Meets}
use Rattle.class_looks.specs.Seeing.{told_by, entries_at, sees, SeesLines}

abbrev Entry : Type 0
Entry = RowPlace × Tuple

-- ---- where a row lies is not seen

abbrev moved : RowPlace → List Entry → List Entry
moved p es = map (λ (e : Entry). (p, e.1)) es

passed-moved : (p : RowPlace) (e : Entry) (b : Option Bool) (o : Option (List Entry))
    → passed (p, e.1) b (option_map (moved p) o) ≡ option_map (moved p) (passed e b o)
passed-moved p e None o = refl
passed-moved p e (Some true) None = refl
passed-moved p e (Some true) (Some es) = refl
passed-moved p e (Some false) o = refl

matching-moved : (p : RowPlace) (c : Condition) (es : List Entry) → matching c (moved p es) ≡ option_map (moved p) (matching c es)
matching-moved p c [] = refl
matching-moved p c (e ∷ es) = ap (passed (p, e.1) (holds e.1 c)) (matching-moved p c es) ∙ passed-moved p e (holds e.1 c) (matching c es)

put-moved : (p : RowPlace) (ks : List SortKey) (e : Entry) (xs : List Entry) → put_in ks (p, e.1) (moved p xs) ≡ moved p (put_in ks e xs)
put-moved p ks e [] = refl
put-moved p ks e (x ∷ xs) = at (is_gt (sort_cmp ks e.1 x.1)) (put-moved p ks e xs)
  where
    at : (b : Bool) → put_in ks (p, e.1) (moved p xs) ≡ moved p (put_in ks e xs)
        → (if b then (p, x.1) ∷ put_in ks (p, e.1) (moved p xs) else (p, e.1) ∷ (p, x.1) ∷ moved p xs) ≡ moved p (if b then x ∷ put_in ks e xs else e ∷ x ∷ xs)
    at true h = ap (λ ys. (p, x.1) ∷ ys) h
    at false h = refl

sorted-moved : (p : RowPlace) (ks : List SortKey) (es : List Entry) → sorted_by ks (moved p es) ≡ moved p (sorted_by ks es)
sorted-moved p ks [] = refl
sorted-moved p ks (e ∷ es) = ap (put_in ks (p, e.1)) (sorted-moved p ks es) ∙ put-moved p ks e (sorted_by ks es)

columns-moved : (p : RowPlace) (columns : List ℕ) (es : List Entry)
    → map (λ (e : Entry). RowEvent (projected columns e.1)) (moved p es) ≡ map (λ (e : Entry). RowEvent (projected columns e.1)) es
columns-moved p columns [] = refl
columns-moved p columns (e ∷ es) = ap (λ xs. RowEvent (projected columns e.1) ∷ xs) (columns-moved p columns es)

length-moved : (p : RowPlace) (es : List Entry) → length (moved p es) ≡ length es
length-moved p [] = refl
length-moved p (e ∷ es) = ap suc (length-moved p es)

total-moved : (p : RowPlace) (c : ℕ) (es : List Entry) → total_of c (moved p es) ≡ total_of c es
total-moved p c [] = refl
total-moved p c (e ∷ es) = ap (λ z. number_in c e.1 +ℤ z) (total-moved p c es)

one-moved : (p : RowPlace) (a : Aggregate) (es : List Entry) → aggregated a (moved p es) ≡ aggregated a es
one-moved p Count es = ap (λ n. Some (Int (pos n))) (length-moved p es)
one-moved p (Sum c) es = ap checked (total-moved p c es)

aggregates-moved : (p : RowPlace) (each : List Aggregate) (es : List Entry) → all_aggregated each (moved p es) ≡ all_aggregated each es
aggregates-moved p [] es = refl
aggregates-moved p (a ∷ each) es = λ i. consed_value (one-moved p a es i) (aggregates-moved p each es i)

shown-moved : (p : RowPlace) (o : Output) (es : List Entry) → shown o (moved p es) ≡ shown o es
shown-moved p (Columns columns) es = λ i. Gives (columns-moved p columns es i ++ Rows (length-moved p es i) ∷ []) []
shown-moved p (Aggregates each) es =
    ap (λ o. let e : Effect = elim o [ None ↦ Faults OutOfRange | Some vs ↦ Gives (RowEvent vs ∷ Rows 1 ∷ []) [] ] in e) (aggregates-moved p each es)

selected-moved : (p : RowPlace) (by : List SortKey) (o : Output) (m : Option (List Entry)) → selected by o (option_map (moved p) m) ≡ selected by o m
selected-moved p by o None = refl
selected-moved p by o (Some es) = ap (shown o) (sorted-moved p by es) ∙ shown-moved p o (sorted_by by es)

entries-moved : (t : ℕ) (es : List (Value × Tuple)) → entries_at t None (unnumbered es) ≡ moved (t, Int (pos 0)) (entries_at t None es)
entries-moved t [] = refl
entries-moved t (e ∷ es) = ap (λ xs. ((t, Int (pos 0)), e.1) ∷ xs) (entries-moved t es)

-- ---- the rows that a SELECT looks at

table-test : (t n : ℕ) (b : Bool) → (n == t) ≡ b → eq_by_cmp nat_cmp t n ≡ b
table-test t n b e =
    unsigned_tied t n ∙ both_ways (t == n) (n == t) (λ h. eq-eqb n t (sym (eqb-true t n h))) (λ h. eq-eqb t n (sym (eqb-true n t h))) ∙ e

kept : (t : ℕ) (key : Option Value) (es : List Entry)
    → where_key place_cmp (λ p. (p.0 == t) && at_key key p.1) es ≡ entries_at t key (rows_in t es)
kept t key [] = refl
kept t key (e ∷ es) = at (e.0.0 == t) refl (kept t key es)
  where
    at : (b : Bool) → (e.0.0 == t) ≡ b → where_key place_cmp (λ p. (p.0 == t) && at_key key p.1) es ≡ entries_at t key (rows_in t es)
        → where_key place_cmp (λ p. (p.0 == t) && at_key key p.1) (e ∷ es) ≡ entries_at t key (rows_in t (e ∷ es))
    at true is rec =
        let table : e.0.0 ≡ t = eqb-true e.0.0 t is in
        let entry : ◌≡◌ {A = Entry} e ((t, e.0.1), e.1) = λ i. ((table i, e.0.1), e.1) in
        ap (λ b. cond (b && at_key key e.0.1) (e ∷ where_key place_cmp (λ p. (p.0 == t) && at_key key p.1) es)
        (where_key place_cmp (λ p. (p.0 == t) && at_key key p.1) es)) is
        ∙ ap (λ x. cond (at_key key e.0.1) (e ∷ x) x) rec
        ∙ ap (λ x. cond (at_key key e.0.1) (x ∷ entries_at t key (rows_in t es)) (entries_at t key (rows_in t es))) entry
        ∙ sym (ap (λ b. entries_at t key (cond b ((e.0.1, e.1) ∷ rows_in t es) (rows_in t es))) (table-test t e.0.0 true is))
    at false is rec =
        ap (λ b. cond (b && at_key key e.0.1) (e ∷ where_key place_cmp (λ p. (p.0 == t) && at_key key p.1) es)
        (where_key place_cmp (λ p. (p.0 == t) && at_key key p.1) es)) is
        ∙ rec
        ∙ sym (ap (λ b. entries_at t key (cond b ((e.0.1, e.1) ∷ rows_in t es) (rows_in t es))) (table-test t e.0.0 false is))

selected-is : (by : List SortKey) (o : Output) (m : Option (List Entry))
    → ◌≡◌ {A = Effect} (elim m [ None ↦ Faults OutOfRange | Some es ↦ shown o (sorted_by by es) ]) (selected by o m)
selected-is by o None = refl
selected-is by o (Some es) = refl

effect-is : (t : ℕ) (k : Option Value) (c : Condition) (by : List SortKey) (o : Output) (lock : RowLock) (rows : Rows')
    → effect (Select t k c by o lock) rows ≡ selected by o (matching c (entries_at t k (rows_of t rows)))
unfolding effect keep entries
effect-is t k c by o lock rows =
    selected-is by o (matching c (entries (keep (looks_at (Select t k c by o lock)) rows))) ∙ ap (λ es. selected by o (matching c es)) (kept t k rows.list)

by-table : (key : Option ℕ) (t : ℕ) (k : Option Value) (c : Condition) (by : List SortKey) (o : Output) (rows : List (Value × Tuple)) → HasKeyFor key k
    → selected by o (matching c (entries_at t k rows)) ≡ selected by o (matching c (entries_at t k (seen_by key rows)))
by-table (Some key) t k c by o rows has = refl
by-table None t None c by o rows has =
    sym (ap (λ es. selected by o (matching c es)) (entries-moved t rows)
    ∙ ap (selected by o) (matching-moved (t, Int (pos 0)) c (entries_at t None rows))
    ∙ selected-moved (t, Int (pos 0)) by o (matching c (entries_at t None rows)))
by-table None t (Some k) c by o rows has = absurd has

-- ---- the rows that a world leaves

left-at : (tables : List Table) (n t m : ℕ) (w : World) → m ≡ n + t → t < length tables
    → get_or (map seen (left_from n tables w)) t [] ≡ seen_by (key_column (get_or tables t no_table)) (rows_of m w.rows)
left-at [] n t m w is lt = absurd (omega arith)
left-at (x ∷ xs) n zero m w is lt = let e : n ≡ m = omega (arith, is) in ap (λ k. seen_by (key_column x) (rows_of k w.rows)) e
left-at (x ∷ xs) n (suc t) m w is lt = left-at xs (suc n) t m w (omega (arith, is)) (omega arith)

look-sees : (tables : List Table) (st : Bound) (w : World) → IsLook tables st → effect st w.rows ≡ sees st (map seen (left_in tables w))
look-sees tables (Select t k c by o lock) w l =
    effect-is t k c by o lock w.rows
    ∙ by-table (key_column (get_or tables t no_table)) t k c by o (rows_of t w.rows) l.1
    ∙ sym (ap (λ rows. selected by o (matching c (entries_at t k rows))) (left-at tables 0 t t w (omega arith) l.0))
look-sees tables (Insert t k rows) w l = absurd l
look-sees tables (Update t k sets c) w l = absurd l
look-sees tables (Delete t k c) w l = absurd l
look-sees tables (Begin level) w l = absurd l
look-sees tables Commit w l = absurd l
look-sees tables Rollback w l = absurd l
look-sees tables (Lock t m nowait) w l = absurd l
look-sees tables SetVariable w l = absurd l

pub sees-lines : (tables : List Table) (spec : Spec) (st : Bound) (ks : List ℕ) (s : Shows) → IsLook tables st → shows_of_line tables spec ks ≡ Some s
    → look_behind spec st ks ≡ Some (sees st s.left)
sees-lines tables spec st ks s look shows = at (world_of_line spec ks) shows
  where
    at : (o : Option World) → option_map (shows_in tables spec.sessions) o ≡ Some s → option_map (look_in st) o ≡ Some (sees st s.left)
    at None h = absurd (cc h)
    at (Some w) h =
        let same : shows_in tables spec.sessions w ≡ s = cc (h) in
        ap Some (look-sees tables st w look ∙ ap (λ (x : Shows). sees st x.left) same)

pub told-lines : (st : Bound) (left : List (List (Value × Tuple))) (events : List Event) → events ≡ told_by (sees st left) → SeesLines st left events
told-lines st left events e tables spec ks s look shows is =
    ap (option_map told_by) (sees-lines tables spec st ks s look shows) ∙ ap (λ rows. Some (told_by (sees st rows))) is ∙ sym (ap Some e)

-- ---- expectations

abbrev WritesNothing : Effect → Type 0
WritesNothing (Gives events writes) = writes ≡ []
WritesNothing (Faults f) = Unit {0}

shown-nothing : (o : Output) (es : List Entry) → WritesNothing (shown o es)
shown-nothing (Columns columns) es = refl
shown-nothing (Aggregates each) es = at (all_aggregated each es)
  where
    at : (o : Option (List Value))
        → WritesNothing (let e : Effect = elim o [ None ↦ Faults OutOfRange | Some vs ↦ Gives (RowEvent vs ∷ Rows 1 ∷ []) [] ] in e)
    at None = tt
    at (Some vs) = refl

selected-nothing : (by : List SortKey) (o : Output) (m : Option (List Entry)) → WritesNothing (selected by o m)
selected-nothing by o None = tt
selected-nothing by o (Some es) = shown-nothing o (sorted_by by es)

sees-nothing : (st : Bound) (left : List (List (Value × Tuple))) → WritesNothing (sees st left)
sees-nothing (Select t k c by o lock) left = selected-nothing by o (matching c (entries_at t k (get_or left t [])))
sees-nothing (Insert t k rows) left = refl
sees-nothing (Update t k sets c) left = refl
sees-nothing (Delete t k c) left = refl
sees-nothing (Begin level) left = refl
sees-nothing Commit left = refl
sees-nothing Rollback left = refl
sees-nothing (Lock t m nowait) left = refl
sees-nothing SetVariable left = refl

one-told : (vs : List Value) (e : Effect) → WritesNothing e → told_by e ≡ told_by (one_row vs) → e ≡ one_row vs
one-told vs (Gives events writes) nothing told = λ i. Gives (told i) (nothing i)
one-told vs (Faults f) nothing told = absurd (let x : Failed f ∷ [] ≡ RowEvent vs ∷ Rows 1 ∷ [] = told in cc)

pub expectations-seen : (tables : List Table) (spec : Spec) (st : Bound) (vs : List Value) (ks : List ℕ) (s : Shows) → IsLook tables st
    → shows_of_line tables spec ks ≡ Some s → Meets spec st vs ks ↔ (told_by (sees st s.left) ≡ told_by (one_row vs))
expectations-seen tables spec st vs ks s look shows =
    let is = sees-lines tables spec st ks s look shows in (
      λ h. (let both : Some (sees st s.left) ≡ Some (one_row vs) = sym is ∙ h in let same : sees st s.left ≡ one_row vs = cc in ap told_by same),
      λ h. is ∙ ap Some (one-told vs (sees st s.left) (sees-nothing st s.left) h),
    )

-- ---- one row more of those that are looked at

module _ (t : ℕ) (key : Option Value) (c : Condition) (rows : List (Value × Tuple)) (i : ℕ) (e : Value × Tuple) (lt : i < length rows)
    (is : e ≡ get_or rows i e) where
  here : drop i rows ≡ e ∷ drop (i + 1) rows
  here = drop-cons rows i e lt ∙ (λ k. sym is k ∷ drop (sym (add-one i) k) rows)

  pub fault-at : (found : List Entry) → at_key key e.0 ≡ true → holds e.1 c ≡ None → onto found (matching c (entries_at t key (drop i rows))) ≡ None
  fault-at found looks fault =
      ap (λ es. onto found (matching c (entries_at t key es))) here
      ∙ ap (λ b. onto found (matching c (cond b (((t, e.0), e.1) ∷ entries_at t key (drop (i + 1) rows)) (entries_at t key (drop (i + 1) rows))))) looks
      ∙ ap (λ o. onto found (passed ((t, e.0), e.1) o (matching c (entries_at t key (drop (i + 1) rows))))) fault

  pub row-at : (found : List Entry) (b : Bool) → at_key key e.0 ≡ true → holds e.1 c ≡ Some b
      → onto found (matching c (entries_at t key (drop i rows)))
      ≡ onto (found ++ cond b (((t, e.0), e.1) ∷ []) []) (matching c (entries_at t key (drop (i + 1) rows)))
  row-at found b looks passes =
      ap (λ es. onto found (matching c (entries_at t key es))) here
      ∙ ap (λ b. onto found (matching c (cond b (((t, e.0), e.1) ∷ entries_at t key (drop (i + 1) rows)) (entries_at t key (drop (i + 1) rows))))) looks
      ∙ ap (λ o. onto found (passed ((t, e.0), e.1) o (matching c (entries_at t key (drop (i + 1) rows))))) passes
      ∙ onto-passed found ((t, e.0), e.1) b (matching c (entries_at t key (drop (i + 1) rows)))

-- ---- what the code answers

pub lines-told : {V E : Type 0} (view : V → List Event) (st : Bound) (left : List (List (Value × Tuple))) (r : Result V E)
    → IfOk r (λ v. view v ≡ told_by (sees st left)) → IfOk r (λ v. SeesLines st left (view v))
lines-told view st left (Ok v) h = told-lines st left (view v) h
lines-told view st left (Err e) h = tt
