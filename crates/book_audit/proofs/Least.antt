-- The least rank with a fact that is not true, run by run.
use Rattle.std.proofs.Common.{◌≡◌, refl, sym, ap, ◌∙◌, subst, ℕ, ◌<◌, ◌≤◌, Bool, true, false, ◌||◌, List, Option, Some, None, ◌⊎◌, ⊎_elim, inl, inr, arith}
use Rattle.std.specs.Cmp.{eq_by_cmp_equiv}
use Rattle.std.specs.FinSet.{contains}
use Rattle.bound_specs.specs.Spec.{Spec}
use Rattle.rank_facts.specs.Facts.{IsTrueAt}
use Rattle.rank_facts.specs.Values.{Facts}
use Rattle.rank_facts.specs.declared.fact.Fact.{Fact}
use Rattle.fact_books.specs.declared.run.Run.{Run}
use Rattle.fact_books.specs.Entries.{FactSet, recorded}
use Rattle.fact_books.specs.Runs.{Table, fact_in, has}
use Rattle.fact_books.specs.Books.{facts_in}
use Rattle.fact_books.proofs.Orders.{fact_total, tied_facts}
use Rattle.fact_books.proofs.RunLemmas.{both_true, and_true, or_true_right, within-true, within-from}
use Rattle.fact_books.proofs.SetLemmas.{contains-runs}
use Rattle.book_audit.specs.declared.finding.Finding.{Finding}
use Rattle.book_audit.specs.Audit.{IsLeastFalse}
use Rattle.book_audit.specs.Findings.{said, with_said, limit, first_of, IsFirstFalse, AllTrueBelow, IsLeast, IsFinding}

pub or-left : (x y : Bool) → x ≡ true → (x || y) ≡ true
or-left x y e = ap (λ b. b || y) e

pub or-cases : (x y : Bool) → (x || y) ≡ true → (x ≡ true) ⊎ (y ≡ true)
or-cases true y e = inl refl
or-cases false y e = inr e

-- ---- what a run says

module _ (table : Table) (run : Run) where
  says-from : (r : ℕ) → run.first ≤ r → r < run.end → has table (r, fact_in table run.tag) run ≡ true
  says-from r le lt = and_true _ _ (within-from run.first run.end r le lt) ((eq_by_cmp_equiv fact_total).refl (fact_in table run.tag))

  says-is : (r : ℕ) (fact : Fact) → has table (r, fact) run ≡ true → (run.first ≤ r) × (r < run.end) × (fact ≡ fact_in table run.tag)
  says-is r fact e =
      let parts = both_true _ _ e in
      let inside = within-true run.first run.end r parts.0 in
      (inside.0, inside.1, tied_facts fact (fact_in table run.tag) parts.1)

-- ---- one more run

limit-end : (end : ℕ) (least : Option ℕ) → limit end least ≤ end
limit-end end None = omega arith
limit-end end (Some rank) = omega arith

-- the facts below what was found in the run
module _ (spec : Spec) (table : Table) (run : Run) (facts : Facts) (rank : ℕ)
    (old : (r : ℕ) (fact : Fact) → r < rank → facts r fact ≡ true → IsTrueAt spec r fact)
    (new : (r : ℕ) → run.first ≤ r → r < run.end → r < rank → IsTrueAt spec r (fact_in table run.tag)) where
  below : AllTrueBelow spec (with_said facts table run) rank
  below r fact lt e =
      ⊎_elim (λ h. old r fact lt h)
      (λ h. (let is = says-is table run r fact h in subst (IsTrueAt spec r) (sym is.2) (new r is.0 is.1 lt)))
      (or-cases (facts r fact) (has table (r, fact) run) e)

module _ (spec : Spec) (table : Table) (run : Run) (facts : Facts) where
  -- what is found in the run is below what was found before
  found : (least : Option ℕ) (rank : ℕ) → IsFirstFalse spec (fact_in table run.tag) run.first (limit run.end least) (Some rank)
      → ((r : ℕ) (fact : Fact) → r < rank → facts r fact ≡ true → IsTrueAt spec r fact)
      → IsLeast spec (with_said facts table run) (Some rank)
  found least rank first old =
      let to = first.1 in
      let few = limit-end run.end least in (
        (fact_in table run.tag, or_true_right (facts rank (fact_in table run.tag)) _ (says-from table run rank first.0 (omega (arith, to, few))), first.2),
        below spec table run facts rank old (λ r le end lt. first.3 r le lt),
      )

  pub with-run : (least now : Option ℕ) → IsFirstFalse spec (fact_in table run.tag) run.first (limit run.end least) now → IsLeast spec facts least
      → IsLeast spec (with_said facts table run) (first_of now least)
  with-run None (Some rank) first old = found None rank first (λ r fact lt h. old r fact h)
  with-run (Some before) (Some rank) first old =
      let to = first.1 in
      found (Some before) rank first (λ r fact lt h. old.1 r fact (omega (arith, to, lt)) h)
  with-run None None first old =
      λ r fact e. ⊎_elim (λ h. old r fact h)
      (λ h. (let is = says-is table run r fact h in subst (IsTrueAt spec r) (sym is.2) (first r is.0 is.1)))
      (or-cases (facts r fact) (has table (r, fact) run) e)
  with-run (Some before) None first old = (
    (old.0.0, or-left (facts before old.0.0) (has table (before, old.0.0) run) old.0.1, old.0.2),
    below spec table run facts before old.1 (λ r le end lt. first r le (omega (arith, end, lt))),
  )

-- ---- facts that are the same

pub least-same : (spec : Spec) (f g : Facts) (least : Option ℕ) → ((r : ℕ) (fact : Fact) → f r fact ≡ g r fact) → IsLeast spec f least → IsLeast spec g least
least-same spec f g least same = subst (λ facts. IsLeast spec facts least) (λ i r fact. same r fact i)

pub finding-same : (spec : Spec) (f g : Facts) (finding : Finding) → ((r : ℕ) (fact : Fact) → f r fact ≡ g r fact) → IsFinding spec f finding
    → IsFinding spec g finding
finding-same spec f g finding same = subst (λ facts. IsFinding spec facts finding) (λ i r fact. same r fact i)

-- the set of runs has what they say
pub said-recorded : (facts : FactSet) (table : Table) (runs : List Run) → facts_in table runs ≡ facts → (r : ℕ) (fact : Fact)
    → said table runs r fact ≡ recorded facts r fact
said-recorded facts table runs is r fact = sym (contains-runs table runs (r, fact)) ∙ ap (λ (s : FactSet). contains s (r, fact)) is

pub least-false : (spec : Spec) (facts : Facts) (rank : ℕ) → IsLeast spec facts (Some rank) → IsLeastFalse spec facts rank
least-false spec facts rank is = (is.0, λ m lt wrong. wrong.2 (is.1 m wrong.0 lt wrong.1))
