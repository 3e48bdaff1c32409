-- The first rank that no run covers.
use Rattle.std.proofs.Common.{◌≡◌, refl, sym, ap, ◌∙◌, ℕ, ◌<◌, ◌≤◌, max, Bool, true, false, cond, ◌||◌, List, [], ◌∷◌, Some, None, ltb, arith}
use Rattle.std.proofs.lemmas.Bool.{ltb-true, ltb-false, false≢true}
use Rattle.std.specs.List.{list_any}
use Rattle.std.specs.Ordering.{eq_by_cmp, is_eq}
use Rattle.std.specs.Cmp.{tied_itself}
use Rattle.rank_facts.specs.declared.fact.Fact.{Fact}
use Rattle.fact_books.specs.declared.run.Run.{Run}
use Rattle.fact_books.specs.Entries.{fact_cmp}
use Rattle.fact_books.proofs.Orders.{fact_total}
use Rattle.fact_books.specs.Runs.{Table, fact_in, within, has, firsts, AllFrom, IsRising, first_gap}
use Rattle.fact_books.specs.Books.{HasFact, IsFirstMissing, IsLeastMissing, facts_in}
use Rattle.fact_books.proofs.RunLemmas.{both_true, and_true, within-true, within-from, or_true_right}
use Rattle.fact_books.proofs.SetLemmas.{contains-runs}

abbrev pub covers : ℕ → Run → Bool
covers r run = within run.first run.end r

either : (x y : Bool) → (x || y) ≡ true → (P : Type 0) → (x ≡ true → P) → (y ≡ true → P) → P
either true y e P f g = f refl
either false y e P f g = g e

pub same_fact : (f : Fact) → eq_by_cmp fact_cmp f f ≡ true
same_fact f = ap is_eq (tied_itself fact_total f)

pub has-covered : (t : Table) (runs : List Run) (r : ℕ) (f : Fact) → list_any (has t (r, f)) runs ≡ true → list_any (covers r) runs ≡ true
has-covered t [] r f e = e
has-covered t (run ∷ runs) r f e = either _ _ e _
    (λ h. ap (λ b. b || list_any (covers r) runs) (both_true (covers r run) _ h).0)
    (λ h. or_true_right (covers r run) _ (has-covered t runs r f h))

pub covered-has : (t : Table) (runs : List Run) (r : ℕ) → list_any (covers r) runs ≡ true → (f : Fact) × (list_any (has t (r, f)) runs ≡ true)
covered-has t [] r e = absurd (false≢true e)
covered-has t (run ∷ runs) r e = either _ _ e _
    (λ h. (fact_in t run.tag, ap (λ b. b || list_any (has t (r, fact_in t run.tag)) runs) (and_true (covers r run) _ h (same_fact (fact_in t run.tag)))))
    (λ h. let x = covered-has t runs r h in (x.0, or_true_right (has t (r, x.0) run) _ x.1))

pub none-below : (runs : List Run) (low r : ℕ) → AllFrom low (firsts runs) → r < low → list_any (covers r) runs ≡ true → ⊥
none-below [] low r a lt e = false≢true e
none-below (run ∷ runs) low r a lt e = either _ _ e _
    (λ h. let p = within-true run.first run.end r h in absurd (omega (arith, a.0, p.0)))
    (λ h. none-below runs low r a.1 lt h)

pub record IsGap (next : ℕ) (runs : List Run) (gap : ℕ) : Type 0 where
  pub up : next ≤ gap
  pub covered : (r : ℕ) → next ≤ r → r < gap → list_any (covers r) runs ≡ true
  pub uncovered : list_any (covers gap) runs ≡ true → ⊥

pub is-gap : (next : ℕ) (runs : List Run) → IsRising (firsts runs) → IsGap next runs (first_gap next runs)
is-gap next [] rises = record { up = omega arith; covered = λ r l m. absurd (omega arith); uncovered = λ e. false≢true e }
is-gap next (run ∷ runs) rises = by (ltb next run.first) refl (is-gap (max next run.end) runs rises.1)
  where
    by : (b : Bool) → ltb next run.first ≡ b → IsGap (max next run.end) runs (first_gap (max next run.end) runs)
        → IsGap next (run ∷ runs) (cond b next (first_gap (max next run.end) runs))
    by true e g =
        let lt : next < run.first = ltb-true next run.first e in
        record {
          up = omega arith;
          covered = λ r l m. absurd (omega arith);
          uncovered = λ h. either _ _ h _ (λ k. let p = within-true run.first run.end next k in absurd (omega (arith, lt, p.0)))
              (λ k. none-below runs run.first next rises.0 lt k);
        }
    by false e g =
        let le : run.first ≤ next = ltb-false next run.first e in
        let up : max next run.end ≤ first_gap (max next run.end) runs = g.up in
        record {
          up = omega arith;
          covered = λ r l m. late r l m (ltb r run.end) refl;
          uncovered = λ h. either _ _ h _
              (λ k. let p = within-true run.first run.end (first_gap (max next run.end) runs) k in absurd (omega (arith, up, p.1))) g.uncovered;
        }
      where
        late : (r : ℕ) → next ≤ r → r < first_gap (max next run.end) runs → (c : Bool) → ltb r run.end ≡ c → (covers r run || list_any (covers r) runs) ≡ true
        late r l m true d = ap (λ b. b || list_any (covers r) runs)
            (within-from run.first run.end r (let h : run.first ≤ next = ltb-false next run.first e in omega arith) (ltb-true r run.end d))
        late r l m false d = or_true_right (covers r run) _ (g.covered r (let h : run.end ≤ r = ltb-false r run.end d in omega arith) m)

-- the gap is the least rank without a fact, where it is one of the ranks
pub first-missing : (t : Table) (runs : List Run) → IsRising (firsts runs) → (from : ℕ) → IsFirstMissing (facts_in t runs) from (first_gap from runs)
first-missing t runs rises from =
    let gap = is-gap from runs rises in
    record {
      up = gap.up;
      none = λ f. gap.uncovered (has-covered t runs _ f.0 (sym (contains-runs t runs (first_gap from runs, f.0)) ∙ f.1));
      below = λ r le lt. (let x = covered-has t runs r (gap.covered r le lt) in (x.0, contains-runs t runs (r, x.0) ∙ x.1));
    }

pub has-below : (t : Table) (runs : List Run) → IsRising (firsts runs) → (r : ℕ) → r < first_gap 0 runs → HasFact (facts_in t runs) r
has-below t runs rises r lt = (first-missing t runs rises 0).below r (omega arith) lt

pub none-at : (t : Table) (runs : List Run) → IsRising (firsts runs) → HasFact (facts_in t runs) (first_gap 0 runs) → ⊥
none-at t runs rises = (first-missing t runs rises 0).none

pub is-missing : (t : Table) (runs : List Run) (ranks : ℕ) → IsRising (firsts runs) → first_gap 0 runs < ranks
    → IsLeastMissing (facts_in t runs) ranks (Some (first_gap 0 runs))
is-missing t runs ranks rises lt = (lt, none-at t runs rises, has-below t runs rises)

pub none-missing : (t : Table) (runs : List Run) (ranks : ℕ) → IsRising (firsts runs) → ranks ≤ first_gap 0 runs → IsLeastMissing (facts_in t runs) ranks None
none-missing t runs ranks rises le r lt = has-below t runs rises r (omega (arith, le, lt))
