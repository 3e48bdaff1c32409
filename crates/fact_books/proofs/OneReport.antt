-- A book has one report, and the pass over the ranks gives it.
use Rattle.std.proofs.Common.{◌≡◌, refl, sym, ap, subst, ◌∙◌, ℕ, zero, suc, ◌+◌, ◌<◌, ◌≤◌, Bool, true, false, cond, nat_lt, ltb-true, ◌&&◌, ◌||◌, List, []}
use Rattle.std.proofs.Common.{◌∷◌, ◌++◌, length, get_or, Option, Some, None, Result, Ok, Err, inl, inr, ◌⊎◌, ⊎_elim, arith, eqb}
use Rattle.std.proofs.lemmas.Bool.{eqb-true, eq-eqb, false≢true, or_cases, ltb-false}
use Rattle.std.specs.List.{list_any}
use Rattle.std.specs.Ordering.{eq_by_cmp, is_eq}
use Rattle.std.specs.Cmp.{tied_itself}
use Rattle.std.specs.FinSet.{items, contains-items}
use Rattle.bound_specs.specs.Spec.{Spec, ranks, counts_of, queues_of}
use Rattle.transcripts.specs.Compact.{outcome_cmp, outcome_total}
use Rattle.transcripts.proofs.OutcomeOrder.{outcome_same}
use Rattle.rank_facts.specs.Swap.{leads_by, leads_in}
use Rattle.rank_facts.specs.Values.{IsValue}
use Rattle.rank_facts.specs.declared.fact.Fact.{Fact}
use Rattle.fact_books.specs.declared.error.ReportError.{ReportError}
use Rattle.fact_books.specs.declared.error.ReportError.TheVariants.{TooMany, Missing, Clash, NoMemory}
use Rattle.fact_books.specs.declared.error.TheConstants.{MAX_REPORTED}
use Rattle.fact_books.specs.Entries.{Told, Entry, FactSet, entry_cmp, recorded}
use Rattle.fact_books.specs.Values.{Leads, HasOne, OneBelow, AreValues, IsMissing, IsClash}
use Rattle.fact_books.specs.Sweep.{LeadsDown, IsDone, IsIn, IsStop, vote}
use Rattle.fact_books.specs.Reports.{IsReportOf, vote_at, votes, all_same, report_from}
use Rattle.fact_books.specs.Laws.{OneReport, ReportsByOnePass}
use Rattle.fact_books.proofs.Orders.{entry_total, entry_same, tied}
use Rattle.fact_books.proofs.BlockLeads.{leads-down}
use Rattle.fact_books.proofs.RunLemmas.{or_true_right}
use Rattle.fact_books.proofs.ValueLemmas.{vote-value, value-vote, done-more}

-- ---- there is one

apart : (m n : ℕ) → (m < n) ⊎ ((n < m) ⊎ (m ≡ n))
apart m n = grind arith

same_lists : (xs ys : List Told) → length xs ≡ length ys → ((i : ℕ) → i < length xs → get_or xs i [] ≡ get_or ys i []) → xs ≡ ys
same_lists [] [] e f = refl
same_lists [] (y ∷ ys) e f = absurd (omega (arith, e))
same_lists (x ∷ xs) [] e f = absurd (omega (arith, e))
same_lists (x ∷ xs) (y ∷ ys) e f =
    let rest = same_lists xs ys (omega (arith, e)) (λ i lt. f (suc i) (omega (arith, lt))) in
    let first = f 0 (omega arith) in
    λ i. first i ∷ rest i

module _ (s : FactSet) (leads : Leads) (count : ℕ) where
  -- the rank is not the one value's
  no_value : (m : ℕ) → IsMissing s leads count m → (o : Told) × HasOne s leads m o → ⊥
  no_value m h one = h.none one.0 one.1.value

  two_values : (m : ℕ) → IsClash s leads count m → (o : Told) × HasOne s leads m o → ⊥
  two_values m h one = let t = h.two in t.4 (one.1.only t.0 t.2 ∙ sym (one.1.only t.1 t.3))

  values-at : (values : List Told) → AreValues s leads count values → (m : ℕ) → m < count → (o : Told) × HasOne s leads m o
  values-at values h m lt = (get_or values m [], h.each m lt)

  one-values : (xs ys : List Told) → AreValues s leads count xs → AreValues s leads count ys → xs ≡ ys
  one-values xs ys a b =
      same_lists xs ys (a.count_is ∙ sym b.count_is)
      (λ i lt. (let l : i < count = (let e = a.count_is in omega (arith, e, lt)) in (b.each i l).only _ (a.each i l).value))

  one-missing : (m n : ℕ) → IsMissing s leads count m → IsMissing s leads count n → m ≡ n
  one-missing m n a b = ⊎_elim (λ l. absurd (no_value m a (b.below m l))) (⊎_elim (λ l. absurd (no_value n b (a.below n l))) (λ e. e)) (apart m n)

  one-clash : (m n : ℕ) → IsClash s leads count m → IsClash s leads count n → m ≡ n
  one-clash m n a b = ⊎_elim (λ l. absurd (two_values m a (b.below m l))) (⊎_elim (λ l. absurd (two_values n b (a.below n l))) (λ e. e)) (apart m n)

  not-both : (m n : ℕ) → IsMissing s leads count m → IsClash s leads count n → ⊥
  not-both m n a b =
      ⊎_elim (λ l. no_value m a (b.below m l))
      (⊎_elim (λ l. two_values n b (a.below n l)) (λ e. (let t = b.two in a.none t.0 (subst (λ k. IsValue (recorded s) leads k t.0) (sym e) t.2)))) (apart m n)

pub one-report : OneReport
one-report book (Ok xs) (Ok ys) na nb a b = ap Ok (one-values _ _ _ xs ys a.1 b.1)
one-report book (Ok xs) (Err TooMany) na nb a b = absurd (let few = a.0 in omega (arith, few, b))
one-report book (Ok xs) (Err (Missing n)) na nb a b = absurd (no_value _ _ _ n b.1 (values-at _ _ _ xs a.1 n b.1.inside))
one-report book (Ok xs) (Err (Clash n)) na nb a b = absurd (two_values _ _ _ n b.1 (values-at _ _ _ xs a.1 n b.1.inside))
one-report book (Ok xs) (Err NoMemory) na nb a b = absurd (nb refl)
one-report book (Err TooMany) (Ok ys) na nb a b = absurd (let few = b.0 in omega (arith, few, a))
one-report book (Err TooMany) (Err TooMany) na nb a b = refl
one-report book (Err TooMany) (Err (Missing n)) na nb a b = absurd (let few = b.0 in omega (arith, few, a))
one-report book (Err TooMany) (Err (Clash n)) na nb a b = absurd (let few = b.0 in omega (arith, few, a))
one-report book (Err TooMany) (Err NoMemory) na nb a b = absurd (nb refl)
one-report book (Err (Missing m)) (Ok ys) na nb a b = absurd (no_value _ _ _ m a.1 (values-at _ _ _ ys b.1 m a.1.inside))
one-report book (Err (Missing m)) (Err TooMany) na nb a b = absurd (let few = a.0 in omega (arith, few, b))
one-report book (Err (Missing m)) (Err (Missing n)) na nb a b = ap (λ r. Err (Missing r)) (one-missing _ _ _ m n a.1 b.1)
one-report book (Err (Missing m)) (Err (Clash n)) na nb a b = absurd (not-both _ _ _ m n a.1 b.1)
one-report book (Err (Missing m)) (Err NoMemory) na nb a b = absurd (nb refl)
one-report book (Err (Clash m)) (Ok ys) na nb a b = absurd (two_values _ _ _ m a.1 (values-at _ _ _ ys b.1 m a.1.inside))
one-report book (Err (Clash m)) (Err TooMany) na nb a b = absurd (let few = a.0 in omega (arith, few, b))
one-report book (Err (Clash m)) (Err (Missing n)) na nb a b = absurd (not-both _ _ _ n m b.1 a.1)
one-report book (Err (Clash m)) (Err (Clash n)) na nb a b = ap (λ r. Err (Clash r)) (one-clash _ _ _ m n a.1 b.1)
one-report book (Err (Clash m)) (Err NoMemory) na nb a b = absurd (nb refl)
one-report book (Err NoMemory) other na nb a b = absurd (na refl)

-- ---- the pass gives it

tied_entries : (x y : Entry) → eq_by_cmp entry_cmp x y ≡ true → x ≡ y
tied_entries x y h = entry_same x y (tied (entry_cmp x y) h)

module _ (leads : Leads) (done : List Told) where
  abbrev has_fact : Fact → List Entry → Bool
  has_fact f es = list_any (eq_by_cmp entry_cmp (length done, f)) es

  itself : (f : Fact) → vote_at leads done (length done, f) ≡ vote leads done (length done) f
  itself f = on (eqb (length done) (length done)) (eq-eqb (length done) (length done) refl)
    where
      on : (b : Bool) → b ≡ true → ◌≡◌ {A = Option Told} (elim b [ true ↦ vote leads done (length done) f | false ↦ None ]) (vote leads done (length done) f)
      on true e = refl
      on false e = cc

  in-votes : (es : List Entry) (f : Fact) (o : Told) → has_fact f es ≡ true → vote leads done (length done) f ≡ Some o → IsIn o (votes leads done es)
  in-votes [] f o e is = absurd (false≢true e)
  in-votes (x ∷ es) f o e is = by (λ h. in-votes es f o h is) (or_cases (eq_by_cmp entry_cmp (length done, f) x) (has_fact f es) e)
    where
      there : (v : Option Told) → v ≡ Some o → IsIn o (elim v [ None ↦ votes leads done es | Some y ↦ y ∷ votes leads done es ])
      there None h = cc
      there (Some y) h = inl (cc h)

      later : (v : Option Told) → IsIn o (votes leads done es) → IsIn o (elim v [ None ↦ votes leads done es | Some y ↦ y ∷ votes leads done es ])
      later None i = i
      later (Some y) i = inr i

      by : (has_fact f es ≡ true → IsIn o (votes leads done es)) → (eq_by_cmp entry_cmp (length done, f) x ≡ true) ⊎ (has_fact f es ≡ true)
          → IsIn o (votes leads done (x ∷ es))
      by rec (inl h) = there (vote_at leads done x) (ap (vote_at leads done) (sym (tied_entries (length done, f) x h)) ∙ itself f ∙ is)
      by rec (inr h) = later (vote_at leads done x) (rec h)

  of-votes : (es : List Entry) (o : Told) → IsIn o (votes leads done es) → (f : Fact) × (has_fact f es ≡ true) × (vote leads done (length done) f ≡ Some o)
  of-votes [] o i = absurd i
  of-votes (x ∷ es) o i = by (of-votes es o) (vote_at leads done x) refl i
    where
      more : (f : Fact) × (has_fact f es ≡ true) × (vote leads done (length done) f ≡ Some o)
          → (f : Fact) × (has_fact f (x ∷ es) ≡ true) × (vote leads done (length done) f ≡ Some o)
      more p = (p.0, or_true_right (eq_by_cmp entry_cmp (length done, p.0) x) _ p.1, p.2)

      mine : (b : Bool) → eqb x.0 (length done) ≡ b
          → ◌≡◌ {A = Option Told} (elim b [ true ↦ vote leads done (length done) x.1 | false ↦ None ]) (Some o)
          → (f : Fact) × (has_fact f (x ∷ es) ≡ true) × (vote leads done (length done) f ≡ Some o)
      mine true e is =
          let at = eqb-true x.0 (length done) e in (
            x.1,
            subst (λ n. has_fact x.1 ((n, x.1) ∷ es) ≡ true) (sym at)
                (ap (λ b. b || has_fact x.1 es) (ap is_eq (tied_itself entry_total (length done, x.1)))),
            is,
          )
      mine false e is = cc

      by : (IsIn o (votes leads done es) → (f : Fact) × (has_fact f es ≡ true) × (vote leads done (length done) f ≡ Some o)) → (v : Option Told)
          → vote_at leads done x ≡ v → IsIn o (elim v [ None ↦ votes leads done es | Some y ↦ y ∷ votes leads done es ])
          → (f : Fact) × (has_fact f (x ∷ es) ≡ true) × (vote leads done (length done) f ≡ Some o)
      by rec None e j = more (rec j)
      by rec (Some y) e (inl h) = mine (eqb x.0 (length done)) refl (e ∙ ap Some (sym h))
      by rec (Some y) e (inr j) = more (rec j)

same_outcome : (x y : Told) → eq_by_cmp outcome_cmp x y ≡ true → x ≡ y
same_outcome x y h = outcome_same x y (tied _ h)

all_same-true : (x : Told) (xs : List Told) → all_same x xs ≡ true → (p : Told) → IsIn p xs → p ≡ x
all_same-true x [] e p i = absurd i
all_same-true x (y ∷ ys) e p i = on (λ h j. all_same-true x ys h p j) (eq_by_cmp outcome_cmp x y) refl e i
  where
    on : (all_same x ys ≡ true → IsIn p ys → p ≡ x) → (b : Bool) → eq_by_cmp outcome_cmp x y ≡ b → (b && all_same x ys) ≡ true → IsIn p (y ∷ ys) → p ≡ x
    on rec true h e (inl is) = is ∙ sym (same_outcome x y h)
    on rec true h e (inr j) = rec e j
    on rec false h e j = cc

all_same-false : (x : Told) (xs : List Told) → all_same x xs ≡ false → (p : Told) × IsIn p xs × (x ≡ p → ⊥)
all_same-false x [] e = cc
all_same-false x (y ∷ ys) e = on (all_same-false x ys) (eq_by_cmp outcome_cmp x y) refl e
  where
    on : (all_same x ys ≡ false → (p : Told) × IsIn p ys × (x ≡ p → ⊥)) → (b : Bool) → eq_by_cmp outcome_cmp x y ≡ b → (b && all_same x ys) ≡ false
        → (p : Told) × IsIn p (y ∷ ys) × (x ≡ p → ⊥)
    on rec true h e = let r = rec e in (r.0, inr r.1, r.2)
    on rec false h e = (y, inl refl, λ is. false≢true (sym h ∙ subst (λ z. eq_by_cmp outcome_cmp x z ≡ true) is (ap is_eq (tied_itself outcome_total x))))

-- what the pass gives over so many ranks
abbrev IsPassed : FactSet → Leads → ℕ → Result (List Told) ReportError → Type 0
IsPassed s leads count (Ok values) = AreValues s leads count values
IsPassed s leads count (Err e) = IsStop s leads count e

module _ (s : FactSet) (leads : Leads) (down : LeadsDown leads) (count : ℕ) where
  value-in : (done : List Told) → IsDone s leads done → (o : Told) → IsValue (recorded s) leads (length done) o → IsIn o (votes leads done (items s))
  value-in done so_far o v =
      let w = value-vote s leads down done so_far (length done) o refl v in
      in-votes leads done (items s) w.0 o (sym (contains-items s (length done, w.0)) ∙ w.1) w.2

  in-value : (done : List Told) → IsDone s leads done → (o : Told) → IsIn o (votes leads done (items s)) → IsValue (recorded s) leads (length done) o
  in-value done so_far o i =
      let w = of-votes leads done (items s) o i in
      vote-value s leads down done so_far o (w.0, contains-items s (length done, w.0) ∙ w.1, w.2)

  length_one : (done : List Told) (x : Told) → length (done ++ x ∷ []) ≡ suc (length done)
  length_one [] x = refl
  length_one (y ∷ ys) x = ap suc (length_one ys x)

  passed : (n : ℕ) (done : List Told) → IsDone s leads done → length done + n ≡ count → IsPassed s leads count (report_from s leads done n)
  passed zero done so_far e = record { count_is = omega (arith, e); each = λ r lt. so_far r (omega (arith, e, lt)) }
  passed (suc n) done so_far e =
      by (votes leads done (items s)) (value-in done so_far) (in-value done so_far)
      (λ x one. passed n (done ++ x ∷ []) (done-more s leads done x so_far one) (let l = length_one done x in omega (arith, l, e)))
    where
      below : OneBelow s leads (length done)
      below r lt = (get_or done r [], so_far r lt)

      one-of : (x : Told) (xs : List Told) → ((o : Told) → IsValue (recorded s) leads (length done) o → IsIn o (x ∷ xs))
          → ((o : Told) → IsIn o (x ∷ xs) → IsValue (recorded s) leads (length done) o)
          → ((y : Told) → HasOne s leads (length done) y → IsPassed s leads count (report_from s leads (done ++ y ∷ []) n)) → (b : Bool) → all_same x xs ≡ b
          → IsPassed s leads count (elim b [ true ↦ report_from s leads (done ++ x ∷ []) n | false ↦ Err (Clash (length done)) ])
      one-of x xs there back rec true h = rec x (record { value = back x (inl refl); only = λ p v. pick p (there p v) })
        where
          pick : (p : Told) → IsIn p (x ∷ xs) → p ≡ x
          pick p (inl is) = is
          pick p (inr i) = all_same-true x xs h p i
      one-of x xs there back rec false h =
          let o = all_same-false x xs h in
          record { inside = omega (arith, e); below = below; two = (x, o.0, back x (inl refl), back o.0 (inr o.1), o.2) }

      by : (vs : List Told) → ((o : Told) → IsValue (recorded s) leads (length done) o → IsIn o vs)
          → ((o : Told) → IsIn o vs → IsValue (recorded s) leads (length done) o)
          → ((y : Told) → HasOne s leads (length done) y → IsPassed s leads count (report_from s leads (done ++ y ∷ []) n))
          → IsPassed s leads count
          (elim vs [
            | [] ↦ Err (Missing (length done))
            | x ∷ xs ↦ elim (all_same x xs) [ true ↦ report_from s leads (done ++ x ∷ []) n | false ↦ Err (Clash (length done)) ]
          ])
      by [] there back rec = record { inside = omega (arith, e); below = below; none = λ o v. there o v }
      by (x ∷ xs) there back rec = one-of x xs there back rec (all_same x xs) refl

spec-leads-down : (run : Spec) → LeadsDown (leads_in run)
spec-leads-down run = on run.lines
  where
    on : (lines : List (List ℕ)) → LeadsDown (leads_by lines (queues_of run))
    on [] = leads-down (Some (counts_of (queues_of run)))
    on (l ∷ ls) = λ r k below e. (let n : ◌≡◌ {A = Option ℕ} None (Some below) = e in cc)

pub one-pass : ReportsByOnePass
one-pass book = on (nat_lt MAX_REPORTED (ranks book.file.run)) refl
  where
    told : ranks book.file.run ≤ MAX_REPORTED → (result : Result (List Told) ReportError)
        → IsPassed book.facts (leads_in book.file.run) (ranks book.file.run) result → IsReportOf book result
    told few (Ok values) h = (few, h)
    told few (Err TooMany) h = absurd h
    told few (Err (Missing r)) h = (few, h)
    told few (Err (Clash r)) h = (few, h)
    told few (Err NoMemory) h = few

    on : (b : Bool) → nat_lt MAX_REPORTED (ranks book.file.run) ≡ b
        → IsReportOf book (cond b (Err TooMany) (report_from book.facts (leads_in book.file.run) [] (ranks book.file.run)))
    on true is = ltb-true MAX_REPORTED (ranks book.file.run) is
    on false is =
        told (let f = ltb-false MAX_REPORTED (ranks book.file.run) is in omega (arith, f)) _
        (passed book.facts (leads_in book.file.run) (spec-leads-down book.file.run) (ranks book.file.run) (ranks book.file.run) []
        (λ r lt. absurd (omega (arith, lt))) (omega arith))
