-- The facts of a shard, run by run.
use Rattle.std.proofs.Common.{◌≡◌, refl, sym, ap, subst, ◌∙◌, ℕ, zero, suc, get_or, ◌∷◌, ◌-◌, ◌<◌, ◌≤◌, Bool, true, false, ◌&&◌, ◌||◌, List, [], ◌++◌, append_assoc, append-nil, slice_get, Option, Some, Result, Ok, Err, ◌⊎◌, inl, inr, ⊎_elim, arith}
use mathlib.Core.List.{IsPrefix}
use Rattle.std.proofs.lemmas.Bool.{or_cases, or_left, or_right}
use Rattle.std.specs.Prelude.{OnOk}
use Rattle.std.specs.Ordering.{eq_by_cmp}
use Rattle.std.specs.FinSet.{union, from_list, empty, contains-from_list, contains-empty}
use Rattle.bound_specs.specs.Spec.{Spec, SpecFile, IsBound, IsReady}
use Rattle.rank_facts.specs.Facts.{IsFactOf}
use Rattle.rank_facts.specs.declared.fact.Fact.{Fact}
use Rattle.rank_facts.specs.declared.fact.Fact.TheVariants.{Ran}
use Rattle.rank_facts.proofs.TrueFacts.{facts-one}
use Rattle.step_reducer.specs.Walks.{AllHave}
use Rattle.step_reducer.specs.Shardwise.{Shardwise, IsPart, GivesPart}
use Rattle.step_reducer.specs.declared.fact.FactRun.{FactRun}
use Rattle.step_reducer.specs.declared.said.Said.{Said}
use Rattle.step_reducer.specs.declared.said.Said.TheVariants as said
use Rattle.step_reducer.specs.declared.said.SaidRun.{SaidRun}
use Rattle.step_reducer.specs.Saying.{fact_of, run_of}
use Rattle.fact_books.specs.Known.{KnowsAtMost, MayName}
use Rattle.fact_books.specs.Entries.{Entry, FactSet, Told, entry_cmp, fact_cmp, recorded}
use Rattle.fact_books.specs.Runs.{within, repeated}
use Rattle.fact_books.specs.Books.{AllRecordable}
use Rattle.fact_books.specs.Building.{Building, added, AreFactsOf, FactFits}
use Rattle.fact_books.proofs.Orders.{entry_total, tied_facts}
use Rattle.fact_books.proofs.RunLemmas.{both_true, and_true, within-true, within-from}
use Rattle.fact_books.proofs.SetLemmas.{in_union, any-repeated, stretch}
use Rattle.fact_books.proofs.GapLemmas.{same_fact}
use Rattle.shard_books.specs.Gathering.{AreTold, IsGathering}
use Rattle.shard_books.proofs.Recordable.{fact-recordable}

some-same : (f g : Fact) → Some f ≡ Some g → f ≡ g
some-same f g e = cc

-- a rank has one fact
one-fact : (reduce : Bool) (spec : Spec) (r : ℕ) (f g : Fact) → IsFactOf reduce spec r f → IsFactOf reduce spec r g → f ≡ g
one-fact reduce spec r f g x y = some-same f g (sym ((facts-one reduce spec r f).1 x) ∙ (facts-one reduce spec r g).1 y)

-- the facts of a stretch of ranks with one fact
pub in-stretch : (first end : ℕ) (f : Fact) (e : Entry)
    → recorded (from_list (repeated first (end - first) f)) e.0 e.1 ≡ (within first end e.0 && eq_by_cmp fact_cmp e.1 f)
in-stretch first end f e =
    contains-from_list entry_total (repeated first (end - first) f) e ∙ any-repeated first (end - first) f e
    ∙ ap (λ b. b && eq_by_cmp fact_cmp e.1 f) (stretch first end e.0)

-- no ranks have no facts
pub none-gathered : (reduce : Bool) (spec : Spec) (at : ℕ) (s : FactSet) → s ≡ empty → AreFactsOf reduce spec at at s
none-gathered reduce spec at s is r fact = (
  λ h. absurd (let f : false ≡ true = sym (ap (λ x. recorded x r fact) is ∙ contains-empty entry_cmp (r, fact)) ∙ h in cc),
  λ h. (let lt = h.1 in let le = h.0 in absurd (omega (arith, le, lt))),
)

-- ranks up to here, and those of the next run
pub more-gathered : (reduce : Bool) (spec : Spec) (first at end : ℕ) (f : Fact) (s : FactSet) → first ≤ at → at < end → AllHave reduce spec at end f
    → AreFactsOf reduce spec first at s
    → AreFactsOf reduce spec first end (union s (from_list (repeated at (end - at) f)))
more-gathered reduce spec first at end f s low lt all so_far r fact = (there, back)
  where
    is : recorded (union s (from_list (repeated at (end - at) f))) r fact ≡ (recorded s r fact || (within at end r && eq_by_cmp fact_cmp fact f))
    is = in_union s (from_list (repeated at (end - at) f)) (r, fact) ∙ ap (λ b. recorded s r fact || b) (in-stretch at end f (r, fact))

    there : recorded (union s (from_list (repeated at (end - at) f))) r fact ≡ true → (first ≤ r) × (r < end) × IsFactOf reduce spec r fact
    there h = ⊎_elim
        (λ old. let p = (so_far r fact).0 old in let m = p.1 in (p.0, omega (arith, m, lt), p.2))
        (λ new.
        let p = both_true (within at end r) _ new in
        let w = within-true at end r p.0 in
        let l = w.0 in
        (omega (arith, l, low), w.1, subst (IsFactOf reduce spec r) (sym (tied_facts fact f p.1)) (all r w.0 w.1)))
        (or_cases (recorded s r fact) _ (sym is ∙ h))

    back : (first ≤ r) × (r < end) × IsFactOf reduce spec r fact → recorded (union s (from_list (repeated at (end - at) f))) r fact ≡ true
    back h =
        let cases : (r < at) ⊎ (at ≤ r) = grind arith in
        is ∙ ⊎_elim
        (λ l. or_left _ _ ((so_far r fact).1 (h.0, l, h.2)))
        (λ g.
        let same = one-fact reduce spec r fact f h.2 (all r g h.1) in
        or_right (recorded s r fact) _ (and_true _ _ (within-from at end r g h.1) (subst (λ x. eq_by_cmp fact_cmp x f ≡ true) (sym same) (same_fact f))))
        cases

pub stretch-recordable : (file : SpecFile) (reduce : Bool) (at end : ℕ) (f : Fact) (s : FactSet) → IsReady file → IsBound file.run → FactFits f
    → AllHave reduce file.run at end f
    → AllRecordable file.run s → AllRecordable file.run (union s (from_list (repeated at (end - at) f)))
stretch-recordable file reduce at end f s ready bound fits all so_far r fact h = ⊎_elim
    (so_far r fact)
    (λ new.
    let p = both_true (within at end r) _ (sym (in-stretch at end f (r, fact)) ∙ new) in
    let w = within-true at end r p.0 in
    let same = tied_facts fact f p.1 in
    fact-recordable file reduce r fact ready bound (subst FactFits (sym same) fits) (subst (IsFactOf reduce file.run r) (sym same) (all r w.0 w.1)))
    (or_cases (recorded s r fact) _ (sym (in_union s (from_list (repeated at (end - at) f)) (r, fact)) ∙ h))

-- ---- outcomes that are known

-- what was told stays told
pub still-told : (old new : List Told) (known : List (ℕ × Told)) → IsPrefix old new → AreTold old known → AreTold new known
still-told old new known front are n o is = subst (λ l. slice_get l n ≡ Some o) front.1 (in-front old front.0 n o (are n o is))
  where
    in-front : (xs ys : List Told) (n : ℕ) (o : Told) → slice_get xs n ≡ Some o → slice_get (xs ++ ys) n ≡ Some o
    in-front [] ys n o is = absurd (cc)
    in-front (x ∷ xs) ys zero o is = is
    in-front (x ∷ xs) ys (suc n) o is = in-front xs ys n o is

-- the number of an outcome that was told names no other one
pub may-name : (told : List Told) (known : List (ℕ × Told)) (n : ℕ) (o : Told) → AreTold told known → slice_get told n ≡ Some o → MayName known n o
may-name told known n o are at other is = let both = sym (are n other is) ∙ at in let same : other ≡ o = cc in same

-- and it may be known by that
pub told-more : (told : List Told) (old new : List (ℕ × Told)) (n : ℕ) (o : Told) → AreTold told old → slice_get told n ≡ Some o → KnowsAtMost old n o new
    → AreTold told new
told-more told old new n o are at (inl same) = subst (AreTold told) (sym same) are
told-more told old new n o are at (inr more) = subst (AreTold told) (sym more) (λ m p is. on m p is.0 (in-push old is.0 m p is.1))
  where
    in-push : (known : List (ℕ × Told)) (k m : ℕ) (p : Told) → slice_get (known ++ (n, o) ∷ []) k ≡ Some (m, p)
        → (slice_get known k ≡ Some (m, p)) ⊎ ((n ≡ m) × (o ≡ p))
    in-push [] zero m p is = let same : (n, o) ≡ (m, p) = cc in inr (ap (λ (e : ℕ × Told). e.0) same, ap (λ (e : ℕ × Told). e.1) same)
    in-push [] (suc k) m p is = absurd (cc)
    in-push (x ∷ known) zero m p is = inl is
    in-push (x ∷ known) (suc k) m p is = in-push known k m p is

    on : (m : ℕ) (p : Told) (k : ℕ) → (slice_get old k ≡ Some (m, p)) ⊎ ((n ≡ m) × (o ≡ p)) → slice_get told m ≡ Some p
    on m p k (inl was) = are m p (k, was)
    on m p k (inr e) = ap (slice_get told) (sym e.0) ∙ at ∙ ap Some e.1

-- the fact that is said by the number of an outcome
pub said-fact : (told : List Told) (s : Said) (n : ℕ) (o : Told) → s ≡ said.Ran n → slice_get told n ≡ Some o → fact_of told s ≡ Ran o
said-fact told s n o is at = ap (fact_of told) is ∙ ap Ran (got told n o at)
  where
    got : (told : List Told) (n : ℕ) (o : Told) → slice_get told n ≡ Some o → get_or told n [] ≡ o
    got [] n o at = absurd (cc)
    got (x ∷ told) zero o at = let same : x ≡ o = cc in same
    got (x ∷ told) (suc n) o at = got told n o at

pub on-ok : {X E : Type 0} {A B : Type 0} (r : Result X E) → (A → B) → OnOk r A → OnOk r B
on-ok (Ok x) f a = f a
on-ok (Err e) f a = tt

-- ---- facts that are gathered

-- nothing is gathered yet
pub begun : (x : Shardwise) (b : Building) → x.spent ≡ false → b.facts ≡ empty → b.next ≡ 0 → b.known ≡ [] → IsGathering x x b
begun x b whole none next nothing = record {
  same = refl;
  whole = whole;
  from = omega arith;
  next = omega (arith, next);
  facts = none-gathered x.reduce x.file.run x.at b.facts none;
  recordable = λ r fact h. absurd (let f : false ≡ true = sym (ap (λ s. recorded s r fact) none ∙ contains-empty entry_cmp (r, fact)) ∙ h in cc);
  front = ([], append-nil x.told);
  known = λ n o is. absurd (let f : slice_get [] is.0 ≡ Some (n, o) = sym (ap (λ known. slice_get known is.0) nothing) ∙ is.1 in cc);
}

-- one more run
pub gathered-more : (x y z : Shardwise) (run : FactRun) (b : Building) → IsReady x.file → IsBound x.file.run → IsGathering x y b → IsPart y run
    → z.spent ≡ false → z ≡ record y { at = run.end; told = z.told } → FactFits run.fact
    → IsPrefix y.told z.told → (known : List (ℕ × Told)) → AreTold z.told known → IsGathering x z (record (added b run.first run.end run.fact) { known = known })
gathered-more x y z run b ready bound g r whole moved fits front known told =
    let at : z.at ≡ run.end = ap (λ (w : Shardwise). w.at) moved in
    let some = r.some in
    let first = r.first in
    let from = g.from in
    let all : AllHave x.reduce x.file.run run.first run.end run.fact =
    subst (λ (w : Shardwise). AllHave w.reduce w.file.run run.first run.end run.fact) g.same r.facts in
    record {
      same = moved ∙ (λ k. (let w : Shardwise = g.same k in record w { at = sym at k; told = z.told }));
      whole = whole;
      from = omega (arith, at, some, first, from);
      next = omega (arith, at, some);
      facts = subst (λ n. AreFactsOf x.reduce x.file.run x.at n (added b run.first run.end run.fact).facts) (sym at)
          (more-gathered x.reduce x.file.run x.at run.first run.end run.fact b.facts (omega (arith, first, from)) some all
          (subst (λ n. AreFactsOf x.reduce x.file.run x.at n b.facts) (sym first) g.facts));
      recordable = stretch-recordable x.file x.reduce run.first run.end run.fact b.facts ready bound fits all g.recordable;
      front = (g.front.0 ++ front.0, sym (append_assoc x.told g.front.0 front.0) ∙ ap (λ l. l ++ front.0) g.front.1 ∙ front.1);
      known = told;
    }

-- the same of what a call gives, and of the facts after it
pub grown : (x y z : Shardwise) (o : Option SaidRun) (run : SaidRun) (b after : Building) → IsReady x.file → IsBound x.file.run → IsGathering x y b
    → o ≡ Some run → GivesPart y z o → z.spent ≡ false → FactFits (fact_of z.told run.said)
    → after ≡ record (added b run.first run.end (fact_of z.told run.said)) { known = after.known } → IsPrefix y.told z.told → AreTold z.told after.known
    → IsGathering x z after
grown x y z o run b after ready bound g is gives whole fits now front told =
    let r = subst (GivesPart y z) is gives in
    subst (IsGathering x z) (sym now) (gathered-more x y z (run_of z.told run) b ready bound g r.0 whole r.1 fits front after.known told)
