-- What is seen of rows that are left is that the same is left.
use Rattle.std.proofs.Common.{◌≡◌, refl, sym, ap, ◌∙◌, subst, ℕ, zero, suc, ◌+◌, ◌<◌, pos, List, [], ◌∷◌, length, map, get_or, Option, Some, None, arith}
use Rattle.lock_modes.specs.declared.value.Value.{Value}
use Rattle.lock_modes.specs.declared.value.Value.TheVariants.{Int}
use Rattle.lock_modes.specs.Rows.{Tuple}
use Rattle.bound_statements.specs.Plan.{key_at}
use Rattle.row_tables.specs.Layers.{rows_of}
use Rattle.statement_evaluation.proofs.ListLemmas.{Each}
use Rattle.binding_model.specs.Tables.{no_table, key_column}
use Rattle.binding_model.specs.declared.tables.Table.{Table}
use Rattle.bound_specs.specs.Fits.{RowFits}
use Rattle.machine_model.specs.Typed.{LiesAt, RowsFit}
use Rattle.machine_model.specs.World.{World}
use Rattle.machine_model.proofs.Takings.{all-each}
use Rattle.line_moments.specs.declared.shown.Left.{Left}
use Rattle.line_moments.specs.Left.{left_from, left_in, no_left, tuples_of, rows_alone}
use Rattle.line_moments.proofs.Leaving.{left-exact}
use Rattle.order_classes.specs.Laws.{LeftIsSeen}
use Rattle.order_classes.specs.Shows.{seen_by, seen}

abbrev Entry : Type 0
Entry = Value × Tuple

-- ---- of one table

rows-seen : (key : Option ℕ) (es : List Entry) → tuples_of (seen_by key es) ≡ tuples_of es
rows-seen (Some key) es = refl
rows-seen None [] = refl
rows-seen None (e ∷ es) = ap (λ rows. e.1 ∷ rows) (rows-seen None es)

abbrev Lie : Option ℕ → List Entry → Type 0
Lie key es = Each (λ (e : Entry). LiesAt key e.0 e.1) es

seen-same : (key : Option ℕ) (es fs : List Entry) → Lie key es → Lie key fs → tuples_of es ≡ tuples_of fs → seen_by key es ≡ seen_by key fs
seen-same (Some key) [] [] p q is = refl
seen-same None [] [] p q is = refl
seen-same key [] (f ∷ fs) p q is = absurd (let x : [] ≡ f.1 ∷ tuples_of fs = is in cc)
seen-same key (e ∷ es) [] p q is = absurd (let x : e.1 ∷ tuples_of es ≡ [] = is in cc)
seen-same key (e ∷ es) (f ∷ fs) p q is = at key p q (seen-same key es fs p.1 q.1 rest)
  where
    row : e.1 ≡ f.1
    row = let x : e.1 ∷ tuples_of es ≡ f.1 ∷ tuples_of fs = is in cc

    rest : tuples_of es ≡ tuples_of fs
    rest = let x : e.1 ∷ tuples_of es ≡ f.1 ∷ tuples_of fs = is in cc

    at : (o : Option ℕ) → Lie o (e ∷ es) → Lie o (f ∷ fs) → seen_by o es ≡ seen_by o fs → seen_by o (e ∷ es) ≡ seen_by o (f ∷ fs)
    at (Some k) a b more =
        let value : e.0 ≡ f.0 = a.0 ∙ ap (key_at k) row ∙ sym b.0 in
        λ i. (value i, row i) ∷ more i
    at None a b more = λ i. (Int (pos 0), row i) ∷ more i

-- ---- of all tables

alone-seen : (xs : List Left) → map tuples_of (map seen xs) ≡ rows_alone xs
alone-seen [] = refl
alone-seen (x ∷ xs) = let rest = alone-seen xs in let first = rows-seen (key_column x.table) x.rows in λ i. first i ∷ rest i

abbrev AllLie : World → ℕ → List Table → Type 0
AllLie w k [] = Unit {0}
AllLie w k (t ∷ ts) = Lie (key_column t) (rows_of k w.rows) × AllLie w (suc k) ts

all-lie : (w : World) (k : ℕ) (ts : List Table)
    → ((n m : ℕ) → n < length ts → m ≡ k + n → Lie (key_column (get_or ts n no_table)) (rows_of m w.rows)) → AllLie w k ts
all-lie w k [] f = tt
all-lie w k (t ∷ ts) f = (f 0 k (omega arith) (omega arith), all-lie w (suc k) ts (λ n m lt is. f (suc n) m (omega (arith, lt)) (omega (arith, is))))

left-at : (ts : List Table) (k n m : ℕ) (w : World) → n < length ts → m ≡ k + n → (get_or (left_from k ts w) n no_left).rows ≡ rows_of m w.rows
left-at [] k n m w lt is = absurd (omega (arith, lt))
left-at (t ∷ ts) k zero m w lt is = let e : k ≡ m = omega (arith, is) in ap (λ j. rows_of j w.rows) e
left-at (t ∷ ts) k (suc n) m w lt is = left-at ts (suc k) n m w (omega (arith, lt)) (omega (arith, is))

lie-all : (P Q : Entry → Type 0) (es : List Entry) → Each (λ e. P e × Q e) es → Each Q es
lie-all P Q [] a = tt
lie-all P Q (e ∷ es) a = (a.0.1, lie-all P Q es a.1)

lie-in : (tables : List Table) (w : World) → RowsFit tables w.rows → AllLie w 0 tables
lie-in tables w fits =
    all-lie w 0 tables (λ n m lt is.
    let t = get_or tables n no_table in
    let P : Entry → Type 0 = λ e. RowFits t e.1 in
    let Q : Entry → Type 0 = λ e. LiesAt (key_column t) e.0 e.1 in
    let rows = (get_or (left_in tables w) n no_left).rows in
    subst (Lie (key_column t)) (left-at tables 0 n m w lt is)
    (lie-all P Q rows (all-each (λ e. P e × Q e) rows (((left-exact tables w fits).each n lt).fit))))

lefts-seen : (ts : List Table) (k : ℕ) (v w : World) → AllLie v k ts → AllLie w k ts → rows_alone (left_from k ts v) ≡ rows_alone (left_from k ts w)
    → map seen (left_from k ts v) ≡ map seen (left_from k ts w)
lefts-seen [] k v w a b same = refl
lefts-seen (t ∷ ts) k v w a b same =
    let x : tuples_of (rows_of k v.rows) ∷ rows_alone (left_from (suc k) ts v) ≡ tuples_of (rows_of k w.rows) ∷ rows_alone (left_from (suc k) ts w) = same in
    let first : tuples_of (rows_of k v.rows) ≡ tuples_of (rows_of k w.rows) = cc in
    let more : rows_alone (left_from (suc k) ts v) ≡ rows_alone (left_from (suc k) ts w) = cc in
    let here = seen-same (key_column t) (rows_of k v.rows) (rows_of k w.rows) a.0 b.0 first in
    let rest = lefts-seen ts (suc k) v w a.1 b.1 more in
    λ i. here i ∷ rest i

pub left-seen : LeftIsSeen
left-seen tables v w fv fw = (
  λ e. sym (alone-seen (left_in tables v)) ∙ ap (map tuples_of) e ∙ alone-seen (left_in tables w),
  λ e. lefts-seen tables 0 v w (lie-in tables v fv) (lie-in tables w fw) e,
)
