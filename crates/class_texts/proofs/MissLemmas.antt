-- The first class of which something expected is not so.
use Rattle.std.proofs.Common.{◌≡◌, ℕ, zero, suc, ◌+◌, ◌<◌, Bool, true, false, cond, List, [], ◌∷◌, length, get_or, drop, refl, sym, ap, ◌∙◌}
use Rattle.std.proofs.Common.{add-one, arith, Option, Some, None}
use Rattle.order_classes.specs.declared.rows.ClassRow.{ClassRow}
use Rattle.class_texts.specs.Expected.{Expectation, first_miss, is_met_at, met_from, missed_from}
use Rattle.class_texts.specs.Laws.{AreMissesTold, HaveOrders, orders_of}

first-left : (rows : List ClassRow) (k : ℕ) → k < length rows → (row : ClassRow) × (drop k rows ≡ row ∷ drop (suc k) rows)
first-left [] k lt = absurd (omega (arith, lt))
first-left (row ∷ rows) zero lt = (row, refl)
first-left (row ∷ rows) (suc k) lt = first-left rows k (omega (arith, lt))

-- a class of which it is so is passed
pub miss-next : (e : Expectation) (k : ℕ) (rows : List ClassRow) (t : Bool) → k < length rows → t ≡ is_met_at e k → t ≡ true
    → first_miss e k (drop k rows) ≡ first_miss e (k + 1) (drop (k + 1) rows)
miss-next e k rows t lt is so =
    let first = first-left rows k lt in
    let next : drop k rows ≡ first.0 ∷ drop (k + 1) rows = rw add-one first.1 in
    ap (first_miss e k) next ∙ ap (λ (b : Bool). cond b (first_miss e (k + 1) (drop (k + 1) rows)) (Some (first.0, get_or e.seen k []))) (sym is ∙ so)

-- ---- it is told

both-by : (b : Bool) (count met missed orders : ℕ) → met + missed ≡ orders → cond b count 0 + met + (cond b 0 count + missed) ≡ count + orders
both-by true count met missed orders e = omega (arith, e)
both-by false count met missed orders e = omega (arith, e)

-- of each order it holds or not
both : (e : Expectation) (k : ℕ) (rows : List ClassRow) → met_from e k rows + missed_from e k rows ≡ orders_of rows
both e k [] = refl
both e k (row ∷ rows) =
    both-by (is_met_at e k) row.count (met_from e (k + 1) rows) (missed_from e (k + 1) rows) (orders_of rows) (both e (k + 1) rows)

some-miss : {A : Type 0} (b : Bool) (rest : Option A) (here : A) → cond b rest (Some here) ≡ None → (b ≡ true) × (rest ≡ None)
some-miss true rest here e = (refl, e)
some-miss false rest here e = absurd (let f : Some here ≡ None = e in cc)

no-miss-by : {A : Type 0} (b : Bool) (count missed : ℕ) (rest : Option A) (here : A) → 0 < count → (missed ≡ 0 → rest ≡ None)
    → cond b 0 count + missed ≡ 0 → cond b rest (Some here) ≡ None
no-miss-by true count missed rest here some more e = more (omega (arith, e))
no-miss-by false count missed rest here some more e = absurd (omega (arith, some, e))

-- no class is told where there is no order of which it does not hold
no-miss : (e : Expectation) (k : ℕ) (rows : List ClassRow) → HaveOrders rows → missed_from e k rows ≡ 0 → first_miss e k rows ≡ None
no-miss e k [] all is = refl
no-miss e k (row ∷ rows) all is =
    no-miss-by (is_met_at e k) row.count (missed_from e (k + 1) rows) (first_miss e (k + 1) rows) (row, get_or e.seen k []) all.0
    (λ h. no-miss e (k + 1) rows all.1 h) is

none-by : (b : Bool) (count missed : ℕ) → b ≡ true → missed ≡ 0 → cond b 0 count + missed ≡ 0
none-by true count missed is e = omega (arith, e)
none-by false count missed is e = absurd (let f : false ≡ true = is in cc)

none-missed : (e : Expectation) (k : ℕ) (rows : List ClassRow) → first_miss e k rows ≡ None → missed_from e k rows ≡ 0
none-missed e k [] is = refl
none-missed e k (row ∷ rows) is =
    let p = some-miss (is_met_at e k) (first_miss e (k + 1) rows) (row, get_or e.seen k []) is in
    none-by (is_met_at e k) row.count (missed_from e (k + 1) rows) p.0 (none-missed e (k + 1) rows p.1)

pub misses-told : (e : Expectation) (rows : List ClassRow) → AreMissesTold e rows
misses-told e rows = record { orders = both e 0 rows; told = λ all. (λ is. no-miss e 0 rows all is, λ is. none-missed e 0 rows is) }
