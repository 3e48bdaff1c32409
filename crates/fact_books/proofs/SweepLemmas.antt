-- The pass over runs gives the values.
use Rattle.std.proofs.Common.{◌≡◌, refl, sym, ap, subst, ◌∙◌, ℕ, zero, suc, ◌+◌, ◌<◌, ◌≤◌, min, Bool, true, false, ◌&&◌, ◌||◌, List, [], ◌∷◌, ◌++◌, length}
use Rattle.std.proofs.Math.Bool.{or_assoc, or-false}
use Rattle.std.proofs.Common.{get_or, take, drop, inl, inr, ◌⊎◌, arith}
use Rattle.std.proofs.lemmas.List.{drop_more, take_more}
use Rattle.std.specs.List.{list_any}
use Rattle.std.specs.Ordering.{eq_by_cmp}
use Rattle.rank_facts.specs.declared.fact.Fact.{Fact}
use Rattle.fact_books.specs.declared.run.Run.{Run}
use Rattle.fact_books.specs.declared.run.Tag.TheVariants.{Ran}
use Rattle.fact_books.specs.Entries.{Entry, FactSet, fact_cmp}
use Rattle.fact_books.specs.Runs.{Table, fact_in, within, has, firsts, AllFrom, AllTo, IsRising, AllSound}
use Rattle.fact_books.specs.Books.{facts_in}
use Rattle.fact_books.specs.Values.{Leads, AreValues}
use Rattle.fact_books.specs.Sweep.{IsDone, values_of, states, IsStretch, AllCover, AllReach, IsSplit, IsSweeping, IsKeeping, IsAdmitting, IsBorder}
use Rattle.fact_books.proofs.RunLemmas.{within-true, within-from, AllTo-more, AllSound-push, AllSound-at}
use Rattle.fact_books.proofs.SetLemmas.{contains-runs}
use Rattle.fact_books.proofs.GapLemmas.{none-below, has-covered}
use Rattle.fact_books.proofs.FillLemmas.{values-length}

-- ---- runs in hand

pub cover-push : (r : ℕ) (xs : List Run) (x : Run) → AllCover r xs → x.first ≤ r → r < x.end → AllCover r (xs ++ x ∷ [])
cover-push r [] x a l m = ((l, m), tt)
cover-push r (y ∷ ys) x a l m = (a.0, cover-push r ys x a.1 l m)

pub cover-at : (r : ℕ) (xs : List Run) (i : ℕ) (d : Run) → i < length xs → AllCover r xs → ((get_or xs i d).first ≤ r) × (r < (get_or xs i d).end)
cover-at r [] i d lt a = absurd (omega (arith, lt))
cover-at r (x ∷ xs) zero d lt a = a.0
cover-at r (x ∷ xs) (suc i) d lt a = cover-at r xs i d (omega (arith, lt)) a.1

pub reach-less : (k m : ℕ) (xs : List Run) → k ≤ m → AllReach m xs → AllReach k xs
reach-less k m [] le a = tt
reach-less k m (x ∷ xs) le a = (let p = a.0 in omega (arith, p, le), reach-less k m xs le a.1)

pub reach-push : (k : ℕ) (xs : List Run) (x : Run) → AllReach k xs → k ≤ x.end → AllReach k (xs ++ x ∷ [])
reach-push k [] x a l = (l, tt)
reach-push k (y ∷ ys) x a l = (a.0, reach-push k ys x a.1 l)

pub to-at : (high : ℕ) (runs : List Run) (i : ℕ) (d : Run) → i < length runs → AllTo high (firsts runs) → (get_or runs i d).first ≤ high
to-at high [] i d lt a = absurd (omega (arith, lt))
to-at high (x ∷ xs) zero d lt a = a.0
to-at high (x ∷ xs) (suc i) d lt a = to-at high xs i d (omega (arith, lt)) a.1

pub cover-began : (r : ℕ) (xs : List Run) → AllCover r xs → AllTo r (firsts xs)
cover-began r [] a = tt
cover-began r (x ∷ xs) a = (a.0.0, cover-began r xs a.1)

-- a run that ended says nothing from there on
pub ended-says : (t : Table) (e : Entry) (run : Run) (rank : ℕ) → run.end ≤ rank → rank ≤ e.0 → has t e run ≡ false
ended-says t e run rank a b = on (within run.first run.end e.0) refl
  where
    on : (w : Bool) → within run.first run.end e.0 ≡ w → (w && eq_by_cmp fact_cmp e.1 (fact_in t run.tag)) ≡ false
    on true is = let p = within-true run.first run.end e.0 is in absurd (omega (arith, a, b, p.1))
    on false is = refl

pub any-push : {A : Type 0} (p : A → Bool) (xs : List A) (x : A) → list_any p (xs ++ x ∷ []) ≡ (list_any p xs || p x)
any-push p [] x = or-false (p x)
any-push p (y ∷ ys) x = ap (λ b. p y || b) (any-push p ys x) ∙ sym (or_assoc (p y) _ _)

-- where all in hand cover the stretch, they say at each of its ranks what they say at all
covered-states : (t : Table) (active : List Run) (rank until r : ℕ) (f : Fact) → AllCover rank active → AllReach until active → rank ≤ r → r < until
    → list_any (has t (r, f)) active ≡ list_any (states t f) active
covered-states t [] rank until r f a b l m = refl
covered-states t (run ∷ runs) rank until r f a b l m =
    let first = a.0.0 in
    let end = b.0 in
    λ i. (within-from run.first run.end r (omega (arith, first, l)) (omega (arith, end, m)) i && eq_by_cmp fact_cmp f
    (fact_in t run.tag)) || covered-states t runs rank until r f a.1 b.1 l m i

rising-drop : (runs : List Run) (k : ℕ) (d : Run) → IsRising (firsts runs) → k < length runs → (low : ℕ) → low ≤ (get_or runs k d).first
    → AllFrom low (firsts (drop k runs))
rising-drop [] k d p lt low l = absurd (omega (arith, lt))
rising-drop (x ∷ xs) zero d p lt low l = (l, from-more (firsts xs) p.0)
  where
    from-more : (ys : List ℕ) → AllFrom x.first ys → AllFrom low ys
    from-more [] a = tt
    from-more (y ∷ ys) a = (let q = a.0 in omega (arith, q, l), from-more ys a.1)
rising-drop (x ∷ xs) (suc k) d p lt low l = rising-drop xs k d p.1 (omega (arith, lt)) low l

drop-past : (runs : List Run) (k : ℕ) → length runs ≤ k → drop k runs ≡ []
drop-past [] zero l = refl
drop-past [] (suc k) l = refl
drop-past (x ∷ xs) zero l = absurd (omega (arith, l))
drop-past (x ∷ xs) (suc k) l = drop-past xs k (omega (arith, l))

rest-silent : (t : Table) (runs : List Run) (next until r : ℕ) (f : Fact) → IsRising (firsts runs)
    → ((d : Run) → next < length runs → until ≤ (get_or runs next d).first) → r < until → list_any (has t (r, f)) (drop next runs) ≡ false
rest-silent t runs next until r f rises rest lt = on (grind arith)
  where
    not-true : (b : Bool) → (b ≡ true → ⊥) → b ≡ false
    not-true true h = absurd (h refl)
    not-true false h = refl

    on : (next < length runs) ⊎ (length runs ≤ next) → list_any (has t (r, f)) (drop next runs) ≡ false
    on (inl l) = not-true _
        (λ h. none-below (drop next runs) until r (rising-drop runs next some rises l until (rest some l)) lt (has-covered t (drop next runs) r f h))
      where
        some : Run
        some = record { first = 0; end = 0; tag = Ran 0 }
    on (inr l) = ap (list_any (has t (r, f))) (drop-past runs next l)

-- the runs in hand say all of the stretch
pub is-stretch : (t : Table) (runs active : List Run) (next rank until : ℕ) → IsRising (firsts runs) → AllCover rank active → AllReach until active
    → ((d : Run) → next < length runs → until ≤ (get_or runs next d).first) → IsSplit t runs active (drop next runs) rank
    → IsStretch (facts_in t runs) t active rank until
is-stretch t runs active next rank until rises cover reach rest split r l m f =
    contains-runs t runs (r, f) ∙ sym (split (r, f) l) ∙ (λ i. list_any (has t (r, f)) active || rest-silent t runs next until r f rises rest m i)
    ∙ or-false _ ∙ covered-states t active rank until r f cover reach l m

-- ---- the loops' steps

pub take-past : {A : Type 0} (xs : List A) (i : ℕ) → length xs ≤ i → take i xs ≡ xs
take-past [] zero l = refl
take-past [] (suc i) l = refl
take-past (x ∷ xs) zero l = absurd (omega (arith, l))
take-past (x ∷ xs) (suc i) l = ap (λ r. x ∷ r) (take-past xs i (omega (arith, l)))

pub any-taken : (p : Run → Bool) (xs : List Run) (i : ℕ) (d : Run) → i < length xs
    → list_any p (take (i + 1) xs) ≡ (list_any p (take i xs) || p (get_or xs i d))
any-taken p xs i d lt = ap (list_any p) (take_more xs i d lt) ∙ any-push p (take i xs) (get_or xs i d)

any-dropped : (p : Run → Bool) (xs : List Run) (i : ℕ) (d : Run) → i < length xs → list_any p (drop i xs) ≡ (p (get_or xs i d) || list_any p (drop (i + 1) xs))
any-dropped p xs i d lt = ap (list_any p) (drop_more xs i d lt)

pub keeps-push : (active now : List Run) (i rank : ℕ) (d : Run) → i < length active → AllTo rank (firsts active) → IsKeeping active i now rank
    → rank < (get_or active i d).end
    → IsKeeping active (i + 1) (now ++ get_or active i d ∷ []) rank
keeps-push active now i rank d lt began k h = record {
  cover = cover-push rank now (get_or active i d) k.cover (to-at rank active i d lt began) h;
  sound = λ n a. AllSound-push n now (get_or active i d) (k.sound n a) (AllSound-at n active i d lt a);
  facts = λ t e l. any-push (has t e) now (get_or active i d) ∙ ap (λ b. b || has t e (get_or active i d)) (k.facts t e l)
      ∙ sym (any-taken (has t e) active i d lt);
}

pub keeps-skip : (active now : List Run) (i rank : ℕ) (d : Run) → i < length active → IsKeeping active i now rank → (get_or active i d).end ≤ rank
    → IsKeeping active (i + 1) now rank
keeps-skip active now i rank d lt k h = record {
  cover = k.cover;
  sound = k.sound;
  facts = λ t e l. k.facts t e l ∙ sym (or-false _) ∙ ap (λ b. list_any (has t e) (take i active) || b) (sym (ended-says t e (get_or active i d) rank h l))
      ∙ sym (any-taken (has t e) active i d lt);
}

pub admits-none : (active runs now : List Run) (i next rank : ℕ) → length active ≤ i → next ≤ length runs → IsKeeping active i now rank
    → IsAdmitting active runs now next next rank
admits-none active runs now i next rank past bound k = record {
  bound = bound;
  cover = k.cover;
  sound = λ n a b. k.sound n a;
  facts = λ t all split e l. ap (λ b. b || list_any (has t e) (drop next runs)) (k.facts t e l ∙ ap (list_any (has t e)) (take-past active i past)) ∙ split e l;
}

pub admits-push : (active runs now : List Run) (next after rank : ℕ) (d : Run) → after < length runs → IsAdmitting active runs now next after rank
    → (get_or runs after d).first ≤ rank → rank < (get_or runs after d).end
    → IsAdmitting active runs (now ++ get_or runs after d ∷ []) next (after + 1) rank
admits-push active runs now next after rank d lt k f h = record {
  bound = omega (arith, lt);
  cover = cover-push rank now (get_or runs after d) k.cover f h;
  sound = λ n a b. AllSound-push n now (get_or runs after d) (k.sound n a b) (AllSound-at n runs after d lt b);
  facts = λ t all split e l.
      ap (λ b. b || list_any (has t e) (drop (after + 1) runs)) (any-push (has t e) now (get_or runs after d))
      ∙ or_assoc (list_any (has t e) now) _ _ ∙ ap (λ b. list_any (has t e) now || b) (sym (any-dropped (has t e) runs after d lt)) ∙ k.facts t all split e l;
}

pub admits-skip : (active runs now : List Run) (next after rank : ℕ) (d : Run) → after < length runs → IsAdmitting active runs now next after rank
    → (get_or runs after d).end ≤ rank
    → IsAdmitting active runs now next (after + 1) rank
admits-skip active runs now next after rank d lt k h = record {
  bound = omega (arith, lt);
  cover = k.cover;
  sound = k.sound;
  facts = λ t all split e l.
      ap (λ b. list_any (has t e) now || b)
      (sym (any-dropped (has t e) runs after d lt
      ∙ ap (λ b. b || list_any (has t e) (drop (after + 1) runs)) (ended-says t e (get_or runs after d) rank h l)))
      ∙ k.facts t all split e l;
}

pub border-step : (rank ranks until next i : ℕ) (active runs : List Run) (d : Run) → i < length active → AllCover rank active
    → IsBorder rank ranks until active runs next i
    → IsBorder rank ranks (min until (get_or active i d).end) active runs next (i + 1)
border-step rank ranks until next i active runs d lt cover k = record {
  above = let h = k.above in let c = (cover-at rank active i d lt cover).1 in omega (arith, h, c);
  few = let h = k.few in omega (arith, h);
  reach = subst (AllReach (min until (get_or active i d).end)) (sym (take_more active i d lt))
      (reach-push _ (take i active) (get_or active i d) (reach-less (min until (get_or active i d).end) until (take i active) (omega arith) k.reach)
      (omega arith));
  rest = λ e l. let h = k.rest e l in omega (arith, h);
}

-- ---- the whole

pub sweep-next : (t : Table) (runs now : List Run) (after rank until : ℕ) → after ≤ length runs → AllSound (length t) now → AllCover rank now → rank < until
    → IsSplit t runs now (drop after runs) rank
    → IsSweeping t runs until now after
sweep-next t runs now after rank until bound sound cover lt split = record {
  bound = bound;
  sound = sound;
  began = AllTo-more rank until (firsts now) (omega (arith, lt)) (cover-began rank now cover);
  facts = λ e l. split e (omega (arith, lt, l));
}

pub is-values : (s : FactSet) (t : Table) (leads : Leads) (done : List ℕ) (ranks : ℕ) → length done ≡ ranks → IsDone s leads (values_of t done)
    → AreValues s leads ranks (values_of t done)
is-values s t leads done ranks e so_far =
    record { count_is = values-length t done ∙ e; each = λ r lt. so_far r (let n = values-length t done in omega (arith, n, e, lt)) }

pub sweep-split : (t : Table) (runs active given now : List Run) (next after at rank : ℕ) → given ≡ active → rank ≡ at → IsSweeping t runs at active next
    → (IsSplit t runs given (drop next runs) rank → IsSplit t runs now (drop after runs) rank) → IsSplit t runs now (drop after runs) rank
sweep-split t runs active given now next after at rank is e k to =
    to (subst (λ l. IsSplit t runs l (drop next runs) rank) (sym is) (subst (IsSplit t runs active (drop next runs)) (sym e) k.facts))
