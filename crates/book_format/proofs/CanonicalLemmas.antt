-- Joining neighbours makes the longest runs.
use Rattle.std.proofs.Common.{◌≡◌, refl, sym, ap, subst, ◌∙◌, ℕ, zero, suc, ◌+◌, ◌<◌, ◌≤◌, max, Bool, true, false, cond, ltb, eqb, ◌||◌, List, [], ◌∷◌}
use Rattle.std.proofs.Math.Bool.{or_assoc, or-false}
use Rattle.std.proofs.Common.{◌++◌, length, get_or, take, inl, inr, ◌⊎◌, arith}
use Rattle.std.proofs.lemmas.Bool.{ltb-true}
use Rattle.std.proofs.lemmas.List.Edits.{length-swap, swapped_from_swap, Swapped}
use Rattle.std.proofs.lemmas.List.Sorted.{IsPermutation-keeps, All-permutation, sorted_far, ranks_by}
use Rattle.std.specs.List.Sorted.{IsPermutation, IsSorted}
use Rattle.std.specs.List.{list_any, swap, All}
use Rattle.std.specs.Ordering.{is_lt, nat_cmp, ordering_reverse, ordering_then}
use Rattle.std.specs.declared.cmp.Ordering.{Ordering}
use Rattle.std.specs.declared.cmp.Ordering.TheVariants.{Less, Equal, Greater}
use Rattle.std.specs.FinMap.{nat_cmp-IsAntisymmetric}
use Rattle.fact_books.specs.declared.run.Run.{Run}
use Rattle.fact_books.specs.declared.run.Tag.{Tag}
use Rattle.fact_books.specs.declared.run.Tag.TheVariants.{Ran, Swap}
use Rattle.fact_books.specs.Entries.{Entry}
use Rattle.fact_books.specs.Runs.{Table, has, IsSound, AllSound}
use Rattle.fact_books.specs.Sweep.{IsIn}
use Rattle.lock_modes.specs.Resource.{both_equal}
use Rattle.book_format.specs.Forms.{AllAfter, Rises, IsLater, run_cmp, run_total, tag_kind, tag_number}
use Rattle.book_format.specs.Canonical.{IsTagLe, IsTagSorted, IsPast, IsJoining}
use Rattle.fact_books.proofs.RunLemmas.{has-grown, AllSound-push, AllSound-at}
use Rattle.fact_books.proofs.VerdictLemmas.{in-push}
use Rattle.fact_books.proofs.SweepLemmas.{any-push, any-taken, take-past}

pub tag-parts : (a b : Tag) → tag_kind a ≡ tag_kind b → tag_number a ≡ tag_number b → a ≡ b
tag-parts (Ran m) (Ran n) k n' = ap Ran n'
tag-parts (Ran m) (Swap l) k n = cc
tag-parts (Swap j) (Ran n) k n' = cc
tag-parts (Swap j) (Swap l) k n = ap Swap n

-- of three that follow one another, where the ends say the same the middle does
between : (a b c : Run) → tag_kind a.tag ≤ tag_kind b.tag → (tag_kind a.tag ≡ tag_kind b.tag → tag_number a.tag ≤ tag_number b.tag)
    → tag_kind b.tag ≤ tag_kind c.tag
    → (tag_kind b.tag ≡ tag_kind c.tag → tag_number b.tag ≤ tag_number c.tag) → a.tag ≡ c.tag → a.tag ≡ b.tag
between a b c k n l m e =
    let ke = ap tag_kind e in
    let ne = ap tag_number e in
    let same : tag_kind a.tag ≡ tag_kind b.tag = omega (arith, k, l, ke) in
    let next : tag_kind b.tag ≡ tag_kind c.tag = omega (arith, k, l, ke) in
    let x = n same in
    let y = m next in
    tag-parts a.tag b.tag same (omega (arith, x, y, ne))

past-trans : (n : ℕ) (a b c : Run) → IsSound n b → IsPast a b → IsPast b c → IsPast a c
past-trans n a b c s p q = record {
  kinds = let x = p.kinds in let y = q.kinds in omega (arith, x, y);
  numbers = λ e.
      let x = p.kinds in
      let y = q.kinds in
      let u = p.numbers (omega (arith, x, y, e)) in
      let v = q.numbers (omega (arith, x, y, e)) in
      omega (arith, u, v);
  apart = λ e.
      let f = between a b c p.kinds p.numbers q.kinds q.numbers e in
      let x = p.apart f in
      let y = q.apart (sym f ∙ e) in
      let z = s.1 in
      omega (arith, x, y, z);
}

pub rises-push : {A : Type 0} (R : A → A → Type 0) (xs : List A) (y : A) → Rises R xs → ((x : A) → IsIn x xs → R x y) → Rises R (xs ++ y ∷ [])
rises-push R [] y p h = (tt, tt)
rises-push R (x ∷ xs) y p h = (after xs p.0, rises-push R xs y p.1 (λ z i. h z (inr i)))
  where
    after : (zs : List _) → AllAfter R x zs → AllAfter R x (zs ++ y ∷ [])
    after [] a = (h x (inl refl), tt)
    after (z ∷ zs) a = (a.0, after zs a.1)

pub sound-last : (n : ℕ) (xs : List Run) (x : Run) → AllSound n (xs ++ x ∷ []) → AllSound n xs × IsSound n x
sound-last n [] x a = (tt, a.0)
sound-last n (y ∷ ys) x a = let r = sound-last n ys x a.1 in ((a.0, r.0), r.1)

pub joining-start : (runs : List Run) (d : Run) → 0 < length runs → IsTagSorted runs → (current : Run) → current ≡ get_or runs 0 d → IsJoining runs 1 [] current
joining-start [] d lt sorted current is = absurd (omega (arith, lt))
joining-start (x ∷ xs) d lt sorted current is = record {
  apart = tt;
  before = λ z i. absurd i;
  facts = λ t e. ap (has t e) is ∙ sym (or-false (has t e x));
  sound = λ n a. (subst (IsSound n) (sym is) a.0, tt);
  rest = λ j c l m. subst (λ r. IsTagLe r (get_or (x ∷ xs) j c)) (sym is) (sorted 0 j c (omega arith) m);
}

pub joining-grow : (runs out : List Run) (i : ℕ) (current run new d : Run) → i < length runs → run ≡ get_or runs i d → IsJoining runs i out current
    → current.tag ≡ run.tag → run.first ≤ current.end
    → new.first ≡ current.first → new.end ≡ max current.end run.end → new.tag ≡ current.tag → IsJoining runs (i + 1) out new
joining-grow runs out i current run new d lt is k same touch first end tag =
    subst (IsJoining runs (i + 1) out) (λ j. record { first = sym first j; end = sym end j; tag = sym tag j }) (record {
      apart = k.apart;
      before = λ x m. let p = k.before x m in record { kinds = p.kinds; numbers = p.numbers; apart = p.apart };
      facts = λ t e.
          ap (λ b. list_any (has t e) out || b) (has-grown t e current run same low touch)
          ∙ sym (or_assoc (list_any (has t e) out) (has t e current) (has t e run))
          ∙ (λ j. k.facts t e j || has t e (is j)) ∙ sym (any-taken (has t e) runs i d lt);
      sound = λ n a.
          let s = sound-last n out current (k.sound n a) in
          let x = s.1.1 in
          AllSound-push n out _ s.0 (s.1.0, omega (arith, x));
      rest = λ j c l m. let p = k.rest j c (omega (arith, l)) m in record { kinds = p.kinds; numbers = p.numbers; firsts = p.firsts };
    })
  where
    low : current.first ≤ run.first
    low =
        let p = k.rest i d (omega arith) lt in
        let q = p.firsts (same ∙ ap (λ (r : Run). r.tag) is) in
        subst (λ r. current.first ≤ r.first) (sym is) q

pub joining-push : (runs out : List Run) (i : ℕ) (current run d : Run) → i < length runs → run ≡ get_or runs i d → IsTagSorted runs → (n : ℕ)
    → AllSound n runs → IsJoining runs i out current
    → (current.tag ≡ run.tag → current.end < run.first) → IsJoining runs (i + 1) (out ++ current ∷ []) run
joining-push runs out i current run d lt is sorted n all k apart = record {
  apart = rises-push IsPast out current k.apart k.before;
  before = λ x m. on x (in-push out current x m);
  facts = λ t e. ap (λ b. b || has t e run) (any-push (has t e) out current ∙ k.facts t e) ∙ ap (λ r. list_any (has t e) (take i runs) || has t e r) is
      ∙ sym (any-taken (has t e) runs i d lt);
  sound = λ m a. AllSound-push m (out ++ current ∷ []) run (k.sound m a) (subst (IsSound m) (sym is) (AllSound-at m runs i d lt a));
  rest = λ j c l m. subst (λ r. IsTagLe r (get_or runs j c)) (sym (is ∙ default runs i lt d c)) (sorted i j c (omega (arith, l)) m);
}
  where
    default : (xs : List Run) (i : ℕ) → i < length xs → (c e : Run) → get_or xs i c ≡ get_or xs i e
    default [] i h c e = absurd (omega (arith, h))
    default (x ∷ xs) zero h c e = refl
    default (x ∷ xs) (suc i) h c e = default xs i (omega (arith, h)) c e

    next : IsPast current run
    next = let p = subst (IsTagLe current) (sym is) (k.rest i d (omega arith) lt) in record { kinds = p.kinds; numbers = p.numbers; apart = apart }

    on : (x : Run) → IsIn x out ⊎ (x ≡ current) → IsPast x run
    on x (inl m) = past-trans n x current run (sound-last n out current (k.sound n all)).1 (k.before x m) next
    on x (inr e) = subst (λ z. IsPast z run) (sym e) next

pub joined-rises : (runs out : List Run) (i : ℕ) (current : Run) → IsJoining runs i out current → Rises IsPast (out ++ current ∷ [])
joined-rises runs out i current k = rises-push IsPast out current k.apart k.before

pub joined-facts : (runs out : List Run) (i : ℕ) (current : Run) → length runs ≤ i → IsJoining runs i out current → (t : Table) (e : Entry)
    → list_any (has t e) (out ++ current ∷ []) ≡ list_any (has t e) runs
joined-facts runs out i current past k t e = any-push (has t e) out current ∙ k.facts t e ∙ ap (list_any (has t e)) (take-past runs i past)

-- ---- another order

-- where two say the same they neither overlap nor touch
abbrev IsApart : Run → Run → Type 0
IsApart a b = a.tag ≡ b.tag → (a.end < b.first) ⊎ (b.end < a.first)

abbrev PairsApart : Run → List Run → Type 0
PairsApart d l = (i j : ℕ) → i < length l → j < length l → (i ≡ j → ⊥) → IsApart (get_or l i d) (get_or l j d)

pub after-at : {A : Type 0} (R : A → A → Type 0) (x d : A) (xs : List A) (j : ℕ) → AllAfter R x xs → j < length xs → R x (get_or xs j d)
after-at R x d [] j a lt = absurd (omega (arith, lt))
after-at R x d (y ∷ ys) zero a lt = a.0
after-at R x d (y ∷ ys) (suc j) a lt = after-at R x d ys j a.1 (omega (arith, lt))

pub rises-at : {A : Type 0} (R : A → A → Type 0) (d : A) (xs : List A) (i j : ℕ) → Rises R xs → i < j → j < length xs → R (get_or xs i d) (get_or xs j d)
rises-at R d [] i j p l m = absurd (omega (arith, m))
rises-at R d (x ∷ xs) zero zero p l m = absurd (omega (arith, l))
rises-at R d (x ∷ xs) zero (suc j) p l m = after-at R x d xs j p.0 (omega (arith, m))
rises-at R d (x ∷ xs) (suc i) zero p l m = absurd (omega (arith, l))
rises-at R d (x ∷ xs) (suc i) (suc j) p l m = rises-at R d xs i j p.1 (omega (arith, l)) (omega (arith, m))

pub at-after : {A : Type 0} (R : A → A → Type 0) (x d : A) (xs : List A) → ((j : ℕ) → j < length xs → R x (get_or xs j d)) → AllAfter R x xs
at-after R x d [] h = tt
at-after R x d (y ∷ ys) h = (h 0 (omega arith), at-after R x d ys (λ j lt. h (suc j) (omega (arith, lt))))

pub at-rises : {A : Type 0} (R : A → A → Type 0) (d : A) (xs : List A) → ((i j : ℕ) → i < j → j < length xs → R (get_or xs i d) (get_or xs j d)) → Rises R xs
at-rises R d [] h = tt
at-rises R d (x ∷ xs) h = (
  at-after R x d xs (λ j lt. h 0 (suc j) (omega arith) (omega (arith, lt))),
  at-rises R d xs (λ i j l m. h (suc i) (suc j)
      (omega (arith, l)) (omega (arith, m))),
)

pairs-apart : (d : Run) (xs : List Run) → Rises IsPast xs → PairsApart d xs
pairs-apart d xs p i j li lj ne = on (grind (arith, ne))
  where
    on : (i < j) ⊎ (j < i) → IsApart (get_or xs i d) (get_or xs j d)
    on (inl l) = λ e. inl ((rises-at IsPast d xs i j p l lj).apart e)
    on (inr l) = λ e. inr ((rises-at IsPast d xs j i p l li).apart (sym e))

-- where the element at a place came from, and how that place was found
abbrev HowCame : ℕ → ℕ → ℕ → ℕ → Type 0
HowCame a b k m = ((k ≡ a) × (m ≡ b)) ⊎ (((k ≡ b) × (m ≡ a)) ⊎ ((m ≡ k) × (k ≡ a → ⊥) × (k ≡ b → ⊥)))

record Came (d : Run) (l : List Run) (a b k : ℕ) : Type 0 where
  place : ℕ
  bound : place < length l
  is : get_or (swap l a b) k d ≡ get_or l place d
  how : HowCame a b k place

came-apart : (a b i j m n : ℕ) → HowCame a b i m → HowCame a b j n → m ≡ n → i ≡ j
came-apart a b i j m n (inl p) (inl q) e = p.0 ∙ sym q.0
came-apart a b i j m n (inl p) (inr (inl q)) e = p.0 ∙ sym q.1 ∙ sym e ∙ p.1 ∙ sym q.0
came-apart a b i j m n (inl p) (inr (inr q)) e = absurd (q.2 (sym q.0 ∙ sym e ∙ p.1))
came-apart a b i j m n (inr (inl p)) (inl q) e = p.0 ∙ sym q.1 ∙ sym e ∙ p.1 ∙ sym q.0
came-apart a b i j m n (inr (inl p)) (inr (inl q)) e = p.0 ∙ sym q.0
came-apart a b i j m n (inr (inl p)) (inr (inr q)) e = absurd (q.1 (sym q.0 ∙ sym e ∙ p.1))
came-apart a b i j m n (inr (inr p)) (inl q) e = absurd (p.2 (sym p.0 ∙ e ∙ q.1))
came-apart a b i j m n (inr (inr p)) (inr (inl q)) e = absurd (p.1 (sym p.0 ∙ e ∙ q.1))
came-apart a b i j m n (inr (inr p)) (inr (inr q)) e = sym p.0 ∙ e ∙ q.0

-- an exchange of two places keeps them apart
swapped-apart : (d : Run) (l : List Run) (a b : ℕ) → a < length l → b < length l → PairsApart d l → PairsApart d (swap l a b)
swapped-apart d l a b la lb h i j li lj ne =
    let n = length-swap l a b in
    let x = from i (omega (arith, n, li)) (grind arith) in
    let y = from j (omega (arith, n, lj)) (grind arith) in
    subst (λ r. IsApart r (get_or (swap l a b) j d)) (sym x.is) (subst (IsApart (get_or l x.place d)) (sym y.is) (h x.place y.place x.bound y.bound
    (λ e. ne (came-apart a b i j x.place y.place x.how y.how e))))
  where
    sw : Swapped (λ i. get_or l i d) (λ i. get_or (swap l a b) i d) a b
    sw = swapped_from_swap l (swap l a b) a b d la lb refl

    from : (k : ℕ) → k < length l → (k ≡ a) ⊎ ((k ≡ b) ⊎ ((k ≡ a → ⊥) × (k ≡ b → ⊥))) → Came d l a b k
    from k lt (inl e) = record { place = b; bound = lb; is = ap (λ n. get_or (swap l a b) n d) e ∙ sw.0; how = inl (e, refl) }
    from k lt (inr (inl e)) = record { place = a; bound = la; is = ap (λ n. get_or (swap l a b) n d) e ∙ sw.1; how = inr (inl (e, refl)) }
    from k lt (inr (inr n)) = record { place = k; bound = lt; is = sw.2 k n.0 n.1; how = inr (inr (refl, n.0, n.1)) }

-- ---- sorted runs that are apart

pub cases-of : (o : Ordering) → is_lt (ordering_reverse o) ≡ false → (o ≡ Less) ⊎ (o ≡ Equal)
cases-of Less e = inl refl
cases-of Equal e = inr refl
cases-of Greater e = cc

pub less-lt : (a b : ℕ) → nat_cmp a b ≡ Less → a < b
less-lt a b e = on (ltb a b) refl (eqb a b) e
  where
    on : (x : Bool) → ltb a b ≡ x → (y : Bool) → cond x Less (cond y Equal Greater) ≡ Less → a < b
    on true h y f = ltb-true a b h
    on false h true f = cc
    on false h false f = cc

first-le : (a b : ℕ) (o : Ordering) → ordering_then (nat_cmp a b) o ≡ Less → a ≤ b
first-le a b o e = on (nat_cmp a b) refl e
  where
    on : (c : Ordering) → nat_cmp a b ≡ c → ordering_then c o ≡ Less → a ≤ b
    on Less h f = let lt = less-lt a b h in omega (arith, lt)
    on Equal h f = let is = nat_cmp-IsAntisymmetric a b h in omega (arith, is)
    on Greater h f = cc

pub sorted-later : (n : ℕ) (d : Run) (ys zs : List Run) → Rises IsPast ys → AllSound n zs → IsPermutation ys zs → IsSorted run_cmp zs → Rises IsLater zs
sorted-later n d ys zs past sound same sorted = at-rises IsLater d zs later
  where
    apart : PairsApart d zs
    apart = IsPermutation-keeps ys (PairsApart d) (pairs-apart d ys past) (λ l i j p q h. swapped-apart d l i j p q h) zs same

    later : (i j : ℕ) → i < j → j < length zs → IsLater (get_or zs i d) (get_or zs j d)
    later i j l m = on (cases-of (run_cmp x y) (subst (λ o. is_lt o ≡ false) (run_total.antisymm y x) far))
      where
        x : Run
        x = get_or zs i d

        y : Run
        y = get_or zs j d

        far : is_lt (run_cmp (get_or zs j d) (get_or zs i d)) ≡ false
        far = sorted_far (λ a b. is_lt (run_cmp a b)) (ranks_by run_total (λ (r : Run). r)) zs sorted i j d (omega (arith, l)) m

        on : (run_cmp (get_or zs i d) (get_or zs j d) ≡ Less) ⊎ (run_cmp (get_or zs i d) (get_or zs j d) ≡ Equal) → IsLater (get_or zs i d) (get_or zs j d)
        on (inl less) = record {
          later = less;
          apart = λ e. pick (apart i j (omega (arith, l, m)) m (λ f. omega (arith, f, l)) e) (first-le _ _ _ less);
        }
          where
            pick : ((get_or zs i d).end < (get_or zs j d).first) ⊎ ((get_or zs j d).end < (get_or zs i d).first)
                → (get_or zs i d).first ≤ (get_or zs j d).first → (get_or zs i d).end < (get_or zs j d).first
            pick (inl h) le = h
            pick (inr h) le = let s = (AllSound-at n zs j d m sound).1 in absurd (omega (arith, h, le, s))
        on (inr equal) = absurd (clash (apart i j (omega (arith, l, m)) m (λ f. omega (arith, f, l)) tags))
          where
            first : (get_or zs i d).first ≡ (get_or zs j d).first
            first = let p = both_equal (nat_cmp (get_or zs i d).first (get_or zs j d).first) _ equal in nat_cmp-IsAntisymmetric _ _ p.0

            tags : (get_or zs i d).tag ≡ (get_or zs j d).tag
            tags =
                let p = both_equal (nat_cmp (get_or zs i d).first (get_or zs j d).first) _ equal in
                let q = both_equal (nat_cmp (tag_kind (get_or zs i d).tag) (tag_kind (get_or zs j d).tag)) _ p.1 in
                tag-parts _ _ (nat_cmp-IsAntisymmetric _ _ q.0) (nat_cmp-IsAntisymmetric _ _ q.1)

            clash : ((get_or zs i d).end < (get_or zs j d).first) ⊎ ((get_or zs j d).end < (get_or zs i d).first) → ⊥
            clash (inl h) = let s = (AllSound-at n zs i d (omega (arith, l, m)) sound).1 in omega (arith, h, first, s)
            clash (inr h) = let s = (AllSound-at n zs j d m sound).1 in omega (arith, h, first, s)

pub sound-moved : (n : ℕ) (ys zs : List Run) → AllSound n ys → IsPermutation ys zs → AllSound n zs
sound-moved n ys zs sound same = from zs (All-permutation (IsSound n) ys zs same (to ys sound))
  where
    to : (l : List Run) → AllSound n l → All (IsSound n) l
    to l a = λ i d lt. AllSound-at n l i d lt a

    from : (l : List Run) → All (IsSound n) l → AllSound n l
    from [] h = tt
    from (x ∷ xs) h = (h 0 x (omega arith), from xs (λ i d lt. h (suc i) d (omega (arith, lt))))
