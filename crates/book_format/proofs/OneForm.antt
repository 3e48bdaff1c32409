-- A set of facts has one form.
use Rattle.std.proofs.Common.{◌≡◌, refl, sym, ap, subst, ◌∙◌, ℕ, zero, suc, ◌+◌, ◌-◌, ◌<◌, ◌≤◌, true, List, [], ◌∷◌, length, get_or, inl}
use Rattle.std.proofs.Common.{inr, ◌⊎◌, arith, Ordering, Less, Equal, Greater}
use Rattle.std.specs.List.{list_any}
use Rattle.std.specs.Ordering.{eq_by_cmp, ordering_reverse}
use Rattle.std.specs.FinSet.{contains}
use Rattle.transcripts.specs.Compact.{outcome_total}
use Rattle.rank_facts.specs.declared.fact.Fact.{Fact}
use Rattle.rank_facts.specs.declared.fact.Fact.TheVariants.{Ran as RanFact, Swap as SwapFact}
use Rattle.fact_books.specs.declared.run.Run.{Run}
use Rattle.fact_books.specs.declared.run.Tag.{Tag}
use Rattle.fact_books.specs.declared.run.Tag.TheVariants.{Ran, Swap}
use Rattle.fact_books.specs.Entries.{Told, Entry, FactSet, fact_cmp}
use Rattle.fact_books.proofs.Orders.{tied_facts}
use Rattle.fact_books.specs.Runs.{Table, fact_in, within, has, IsNumbered, IsSound, AllSound}
use Rattle.fact_books.specs.Books.{Contents}
use Rattle.fact_books.specs.Sweep.{IsIn}
use Rattle.book_format.specs.Forms.{AllAfter, Rises, ComesBefore, run_total, IsLater, IsForm}
use Rattle.book_format.specs.BookText.{book_text, IsTextOf}
use Rattle.fact_books.proofs.RunLemmas.{both_true, and_true, within-true, within-from}
use Rattle.fact_books.proofs.VerdictLemmas.{any-in, in-any}
use Rattle.fact_books.proofs.SetLemmas.{contains-runs}
use Rattle.fact_books.proofs.GapLemmas.{same_fact}

-- ---- lists that rise and have the same members are equal

pub in-at : {A : Type 0} (d : A) (xs : List A) (n : ℕ) → n < length xs → IsIn (get_or xs n d) xs
in-at d [] n lt = absurd (omega (arith, lt))
in-at d (x ∷ xs) zero lt = inl refl
in-at d (x ∷ xs) (suc n) lt = inr (in-at d xs n (omega (arith, lt)))

module _ {A : Type 0} (R : A → A → Type 0) (asym : (x y : A) → R x y → R y x → ⊥) where
  after-in : (x a : A) (xs : List A) → AllAfter R x xs → IsIn a xs → R x a
  after-in x a [] h i = absurd i
  after-in x a (y ∷ ys) h (inl e) = subst (R x) (sym e) h.0
  after-in x a (y ∷ ys) h (inr i) = after-in x a ys h.1 i

  pub one-list : (xs ys : List A) → Rises R xs → Rises R ys → ((a : A) → IsIn a xs → IsIn a ys) → ((a : A) → IsIn a ys → IsIn a xs) → xs ≡ ys
  one-list [] [] p q f g = refl
  one-list [] (y ∷ ys) p q f g = absurd (g y (inl refl))
  one-list (x ∷ xs) [] p q f g = absurd (f x (inl refl))
  one-list (x ∷ xs) (y ∷ ys) p q f g =
      let same = heads (f x (inl refl)) (g y (inl refl)) in
      λ i. same i ∷ one-list xs ys p.1 q.1 (λ a j. left a j (f a (inr j)) same) (λ a j. right a j (g a (inr j)) same) i
    where
      heads : (x ≡ y) ⊎ IsIn x ys → (y ≡ x) ⊎ IsIn y xs → x ≡ y
      heads (inl e) h = e
      heads (inr i) (inl e) = sym e
      heads (inr i) (inr j) = absurd (asym x y (after-in x y xs p.0 j) (after-in y x ys q.0 i))

      left : (a : A) → IsIn a xs → (a ≡ y) ⊎ IsIn a ys → x ≡ y → IsIn a ys
      left a j (inl e) same = let r = subst (R x) (e ∙ sym same) (after-in x a xs p.0 j) in absurd (asym x x r r)
      left a j (inr i) same = i

      right : (a : A) → IsIn a ys → (a ≡ x) ⊎ IsIn a xs → x ≡ y → IsIn a xs
      right a j (inl e) same = let r = subst (R y) (e ∙ same) (after-in y a ys q.0 j) in absurd (asym y y r r)
      right a j (inr i) same = i

  -- of two members one comes first
  pub compare-in : (xs : List A) → Rises R xs → (a b : A) → IsIn a xs → IsIn b xs → (a ≡ b) ⊎ (R a b ⊎ R b a)
  compare-in [] p a b i j = absurd i
  compare-in (x ∷ xs) p a b (inl e) (inl f) = inl (e ∙ sym f)
  compare-in (x ∷ xs) p a b (inl e) (inr j) = inr (inl (subst (λ z. R z b) (sym e) (after-in x b xs p.0 j)))
  compare-in (x ∷ xs) p a b (inr i) (inl f) = inr (inr (subst (λ z. R z a) (sym f) (after-in x a xs p.0 i)))
  compare-in (x ∷ xs) p a b (inr i) (inr j) = compare-in xs p.1 a b i j

  first-place : (d x : A) (xs : List A) (n : ℕ) → AllAfter R x xs → n < length xs → x ≡ get_or xs n d → ⊥
  first-place d x xs n p lt e = let r = subst (R x) (sym e) (after-in x _ xs p (in-at d xs n lt)) in asym x x r r

  -- no member stands twice
  pub one-place : (d : A) (xs : List A) → Rises R xs → (m n : ℕ) → m < length xs → n < length xs → get_or xs m d ≡ get_or xs n d → m ≡ n
  one-place d [] p m n lm ln e = absurd (omega (arith, lm))
  one-place d (x ∷ xs) p zero zero lm ln e = refl
  one-place d (x ∷ xs) p zero (suc n) lm ln e = absurd (first-place d x xs n p.0 (omega (arith, ln)) e)
  one-place d (x ∷ xs) p (suc m) zero lm ln e = absurd (first-place d x xs m p.0 (omega (arith, lm)) (sym e))
  one-place d (x ∷ xs) p (suc m) (suc n) lm ln e = ap suc (one-place d xs p.1 m n (omega (arith, lm)) (omega (arith, ln)) e)

pub place-in : {A : Type 0} (d : A) (xs : List A) (a : A) → IsIn a xs → (n : ℕ) × (n < length xs) × (get_or xs n d ≡ a)
place-in d [] a i = absurd i
place-in d (x ∷ xs) a (inl e) = (0, omega arith, sym e)
place-in d (x ∷ xs) a (inr i) = let p = place-in d xs a i in (suc p.0, omega (arith, p.1), p.2)

-- ---- members

pub sound-in : (n : ℕ) (runs : List Run) (run : Run) → AllSound n runs → IsIn run runs → IsSound n run
sound-in n [] run a i = absurd i
sound-in n (x ∷ xs) run a (inl e) = subst (IsSound n) (sym e) a.0
sound-in n (x ∷ xs) run a (inr i) = sound-in n xs run a.1 i

-- what a run says
pub has-true : (t : Table) (r : ℕ) (f : Fact) (run : Run) → has t (r, f) run ≡ true → (run.first ≤ r) × (r < run.end) × (f ≡ fact_in t run.tag)
has-true t r f run e =
    let p = both_true (within run.first run.end r) _ e in
    let w = within-true run.first run.end r p.0 in
    (w.0, w.1, tied_facts f (fact_in t run.tag) p.1)

pub true-has : (t : Table) (r : ℕ) (f : Fact) (run : Run) → run.first ≤ r → r < run.end → f ≡ fact_in t run.tag → has t (r, f) run ≡ true
true-has t r f run a b e = and_true (within run.first run.end r) _ (within-from run.first run.end r a b) (subst (λ g. eq_by_cmp fact_cmp f g ≡ true) e
    (same_fact f))

-- ---- orders

less-less : (o : Ordering) → o ≡ Less → ordering_reverse o ≡ Less → ⊥
less-less Less e f = cc
less-less Equal e f = cc
less-less Greater e f = cc

pub before-asym : (a b : Told) → ComesBefore a b → ComesBefore b a → ⊥
before-asym a b p q = less-less _ p (sym (outcome_total.antisymm b a) ∙ q)

pub later-asym : (a b : Run) → IsLater a b → IsLater b a → ⊥
later-asym a b p q = less-less _ p.later (sym (run_total.antisymm b a) ∙ q.later)

-- ---- one table

abbrev ran-place : (f : Fact) → Told
ran-place (RanFact o) = o
ran-place (SwapFact k) = []

abbrev swap-place : (f : Fact) → ℕ
swap-place (RanFact o) = 0
swap-place (SwapFact k) = k

pub tag-one : (t : Table) → Rises ComesBefore t → (a b : Tag) → IsNumbered (length t) a → IsNumbered (length t) b → fact_in t a ≡ fact_in t b → a ≡ b
tag-one t p (Ran m) (Ran n) lm ln e = ap Ran (one-place ComesBefore before-asym [] t p m n lm ln (ap ran-place e))
tag-one t p (Ran m) (Swap l) lm ln e = cc
tag-one t p (Swap k) (Ran n) lm ln e = cc
tag-one t p (Swap k) (Swap l) lm ln e = ap Swap (ap swap-place e)

module _ (s : FactSet) (t : Table) (runs : List Run) (form : IsForm s t runs) where
  says : (e : Entry) → contains s e ≡ list_any (has t e) runs
  says e = ap (λ x. contains x e) (sym form.facts_are) ∙ contains-runs t runs e

  pub in-ran : (o : Told) → IsIn o t → (r : ℕ) × (contains s (r, RanFact o) ≡ true)
  in-ran o i =
      let p = place-in [] t o i in
      let n = form.named p.0 p.1 in
      let run = n.0 in
      let a = sound-in (length t) runs run form.sound n.1 in (
        run.first,
        says (run.first, RanFact o) ∙ in-any (has t (run.first, RanFact o)) runs run n.1 (true-has t run.first (RanFact o) run
            (omega arith) a.1 (sym (ap (fact_in t) n.2 ∙ ap RanFact p.2))),
      )

  pub ran-in : (r : ℕ) (o : Told) → contains s (r, RanFact o) ≡ true → IsIn o t
  ran-in r o h =
      let w = any-in (has t (r, RanFact o)) runs (sym (says (r, RanFact o)) ∙ h) in
      let a = sound-in (length t) runs w.0 form.sound w.1 in
      let q = has-true t r (RanFact o) w.0 w.2 in
      on w.0.tag a.0 q.2
    where
      on : (g : Tag) → IsNumbered (length t) g → RanFact o ≡ fact_in t g → IsIn o t
      on (Ran n) lt e = subst (λ x. IsIn x t) (sym (ap ran-place e)) (in-at [] t n lt)
      on (Swap k) lt e = cc

pub one-table : (s : FactSet) (t u : Table) (xs ys : List Run) → IsForm s t xs → IsForm s u ys → t ≡ u
one-table s t u xs ys f g =
    one-list ComesBefore before-asym t u f.table_rises g.table_rises
    (λ o i. let r = in-ran s t xs f o i in ran-in s u ys g r.0 o r.1)
    (λ o i. let r = in-ran s u ys g o i in ran-in s t xs f r.0 o r.1)

-- ---- one list of runs

module _ (t : Table) (rises : Rises ComesBefore t) where
  -- the run that covers a rank with the fact of a tag
  covered : (zs : List Run) (r : ℕ) (g : Tag) → AllSound (length t) zs → IsNumbered (length t) g → list_any (has t (r, fact_in t g)) zs ≡ true
      → (z : Run) × IsIn z zs × (z.tag ≡ g) × (z.first ≤ r) × (r < z.end)
  covered zs r g a n h =
      let w = any-in (has t (r, fact_in t g)) zs h in
      let q = has-true t r (fact_in t g) w.0 w.2 in
      (w.0, w.1, sym (tag-one t rises g w.0.tag n (sound-in (length t) zs w.0 a w.1).0 q.2), q.0, q.1)

  covers : (zs : List Run) (z : Run) (r : ℕ) (g : Tag) → IsIn z zs → z.tag ≡ g → z.first ≤ r → r < z.end → list_any (has t (r, fact_in t g)) zs ≡ true
  covers zs z r g i e a b = in-any (has t (r, fact_in t g)) zs z i (true-has t r (fact_in t g) z a b (ap (fact_in t) (sym e)))

  -- runs of one tag that overlap or touch are one
  single : (zs : List Run) → Rises IsLater zs → (x z : Run) → IsIn x zs → IsIn z zs → x.tag ≡ z.tag → z.first ≤ x.end → x.first ≤ z.end → x ≡ z
  single zs p x z i j e a b = on (compare-in IsLater later-asym zs p x z i j)
    where
      on : (x ≡ z) ⊎ (IsLater x z ⊎ IsLater z x) → x ≡ z
      on (inl h) = h
      on (inr (inl l)) = let q = l.apart e in absurd (omega (arith, a, q))
      on (inr (inr l)) = let q = l.apart (sym e) in absurd (omega (arith, b, q))

  module _ (xs ys : List Run) (px : Rises IsLater xs) (py : Rises IsLater ys) (ax : AllSound (length t) xs) (ay : AllSound (length t) ys) (same :
      (e : Entry) → list_any (has t e) xs ≡ list_any (has t e) ys) where
    -- a run that touches x and says the same where x begins is no longer than x, before it
    begins : (x y : Run) → IsIn x xs → IsIn y ys → y.tag ≡ x.tag → y.first ≤ x.first → x.first < y.end → x.first ≤ y.first
    begins x y i j e a b = on (le_or_lt x.first y.first)
      where
        le_or_lt : (m n : ℕ) → (m ≤ n) ⊎ (n < m)
        le_or_lt m n = grind arith

        on : (x.first ≤ y.first) ⊎ (y.first < x.first) → x.first ≤ y.first
        on (inl l) = l
        on (inr l) = absurd (before (x.first - 1) (omega (arith, l)) (omega (arith, l)))
          where
            before : (r : ℕ) → r + 1 ≡ x.first → y.first ≤ r → ⊥
            before r n m =
                let sx = sound-in (length t) xs x ax i in
                let h = same (r, fact_in t x.tag) ∙ covers ys y r x.tag j e m (omega (arith, b, n)) in
                let z = covered xs r x.tag ax sx.0 h in
                let is = single xs px x z.0 i z.1 (sym z.2) (omega (arith, z.3, n, sx.1)) (omega (arith, z.4, n)) in
                let f = ap (λ (run : Run). run.first) is in
                omega (arith, f, z.3, n)

    -- and no longer than x, behind it
    ends : (x y : Run) → IsIn x xs → IsIn y ys → y.tag ≡ x.tag → y.first ≤ x.first → y.end ≤ x.end
    ends x y i j e a = on (le_or_lt y.end x.end)
      where
        le_or_lt : (m n : ℕ) → (m ≤ n) ⊎ (n < m)
        le_or_lt m n = grind arith

        on : (y.end ≤ x.end) ⊎ (x.end < y.end) → y.end ≤ x.end
        on (inl l) = l
        on (inr l) =
            let sx = sound-in (length t) xs x ax i in
            let h = same (x.end, fact_in t x.tag) ∙ covers ys y x.end x.tag j e (let q = sx.1 in omega (arith, a, q)) l in
            let z = covered xs x.end x.tag ax sx.0 h in
            let is = single xs px x z.0 i z.1 (sym z.2) z.3 (let q = sx.1 in let p = z.4 in omega (arith, q, p)) in
            let f = ap (λ (run : Run). run.end) is in
            let p = z.4 in
            absurd (omega (arith, f, p))

run-parts : (a b : Run) → a.first ≡ b.first → a.end ≡ b.end → a.tag ≡ b.tag → a ≡ b
run-parts a b f e t = λ i. record { first = f i; end = e i; tag = t i }

pub run-in : (t : Table) (rises : Rises ComesBefore t) (xs ys : List Run) → Rises IsLater xs → Rises IsLater ys → AllSound (length t) xs
    → AllSound (length t) ys
    → ((e : Entry) → list_any (has t e) xs ≡ list_any (has t e) ys) → (x : Run) → IsIn x xs → IsIn x ys
run-in t rises xs ys px py ax ay same x i =
    let sx = sound-in (length t) xs x ax i in
    let h = sym (same (x.first, fact_in t x.tag)) ∙ covers t rises xs x x.first x.tag i refl (omega arith) sx.1 in
    let y = covered t rises ys x.first x.tag ay sx.0 h in
    let b = begins t rises xs ys px py ax ay same x y.0 i y.1 y.2 y.3 y.4 in
    let e = ends t rises xs ys px py ax ay same x y.0 i y.1 y.2 y.3 in
    let d = ends t rises ys xs py px ay ax (λ z. sym (same z)) y.0 x y.1 i (sym y.2) b in
    let a = y.3 in
    subst (λ z. IsIn z ys) (run-parts y.0 x (omega (arith, a, b)) (omega (arith, e, d)) y.2) y.1

pub one-runs : (t : Table) (rises : Rises ComesBefore t) (xs ys : List Run) → Rises IsLater xs → Rises IsLater ys → AllSound (length t) xs
    → AllSound (length t) ys
    → ((e : Entry) → list_any (has t e) xs ≡ list_any (has t e) ys) → xs ≡ ys
one-runs t rises xs ys px py ax ay same =
    one-list IsLater later-asym xs ys px py (run-in t rises xs ys px py ax ay same) (run-in t rises ys xs py px ay ax (λ z. sym (same z)))

pub one-form : (s : FactSet) (t u : Table) (xs ys : List Run) → IsForm s t xs → IsForm s u ys → (t ≡ u) × (xs ≡ ys)
one-form s t u xs ys f g =
    let e = one-table s t u xs ys f g in (
      e,
      one-runs t f.table_rises xs ys f.runs_rise g.runs_rise f.sound (subst (λ v. AllSound (length v) ys) (sym e) g.sound)
          (λ z. sym (says s t xs f z) ∙ says s u ys g z ∙ ap (λ v. list_any (has v z) ys) (sym e)),
    )

-- a book has one text
pub one-text : (a b : List ℕ) (book : Contents) → IsTextOf a book → IsTextOf b book → a ≡ b
one-text a b book f g =
    let e = one-form book.facts f.table g.table f.runs g.runs f.form g.form in
    f.text_is ∙ (λ i. book_text book.file.text (e.0 i) (e.1 i)) ∙ sym g.text_is
