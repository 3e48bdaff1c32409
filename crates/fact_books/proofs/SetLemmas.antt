-- The laws of joining, and what the set of a list of runs contains.
use Rattle.std.proofs.Common.{◌≡◌, refl, sym, ap, ◌∙◌, ℕ, zero, suc, ◌+◌, ◌-◌, Bool, true, false, ◌&&◌, ◌||◌, List, [], ◌∷◌, arith, eqb, Ordering, nat_cmp}
use Rattle.std.proofs.Math.Bool.{or_assoc, or_comm, or_self}
use Rattle.std.proofs.lemmas.Bool.{eqb-true, eq-eqb}
use Rattle.std.proofs.lemmas.List.Folds.{list_any-append}
use Rattle.std.specs.List.{list_any}
use Rattle.std.specs.Ordering.{eq_by_cmp, is_eq, ordering_then}
use Rattle.std.specs.Cmp.{unsigned_tied}
use Rattle.std.specs.FinSet.{contains, union, from_list, same_set, contains-union, contains-from_list}
use Rattle.rank_facts.specs.declared.fact.Fact.{Fact}
use Rattle.fact_books.specs.declared.run.Run.{Run}
use Rattle.fact_books.specs.Entries.{Entry, FactSet, entry_cmp, fact_cmp}
use Rattle.fact_books.proofs.Orders.{entry_total, entry_same}
use Rattle.fact_books.specs.Runs.{Table, fact_in, within, has, repeated, facts_of}
use Rattle.fact_books.proofs.RunLemmas.{same_bool, within-true, within-from}

-- books with the same facts are equal
pub same_facts : (s t : FactSet) → ((e : Entry) → contains s e ≡ contains t e) → s ≡ t
same_facts = same_set entry_total entry_same

pub in_union : (s t : FactSet) (e : Entry) → contains (union s t) e ≡ (contains s e || contains t e)
in_union = contains-union entry_total

pub union-comm : (s t : FactSet) → union s t ≡ union t s
union-comm s t = same_facts _ _ (λ e. in_union s t e ∙ or_comm (contains s e) (contains t e) ∙ sym (in_union t s e))

pub union-assoc : (s t u : FactSet) → union (union s t) u ≡ union s (union t u)
union-assoc s t u = same_facts _ _ (λ e.
    in_union (union s t) u e ∙ ap (λ b. b || contains u e) (in_union s t e) ∙ or_assoc (contains s e) (contains t e) (contains u e)
    ∙ sym (in_union s (union t u) e ∙ ap (λ b. contains s e || b) (in_union t u e)))

pub union-idem : (s : FactSet) → union s s ≡ s
union-idem s = same_facts _ _ (λ e. in_union s s e ∙ or_self (contains s e))

-- ---- runs

-- the entries are one where ranks and facts are
pub tied_entry : (r first : ℕ) (o : Ordering) → is_eq (ordering_then (nat_cmp r first) o) ≡ (eqb r first && is_eq o)
tied_entry r first o = both (nat_cmp r first) ∙ ap (λ b. b && is_eq o) (unsigned_tied r first)
  where
    both : (a : Ordering) → is_eq (ordering_then a o) ≡ (is_eq a && is_eq o)
    both Ordering.Less = refl
    both Ordering.Equal = refl
    both Ordering.Greater = refl

pub any-repeated : (first n : ℕ) (f : Fact) (e : Entry)
    → list_any (eq_by_cmp entry_cmp e) (repeated first n f) ≡ (within first (first + n) e.0 && eq_by_cmp fact_cmp e.1 f)
any-repeated first zero f e = sym (none (within first (first + 0) e.0) refl)
  where
    none : (b : Bool) → within first (first + 0) e.0 ≡ b → (b && eq_by_cmp fact_cmp e.1 f) ≡ false
    none true is = let p = within-true first (first + 0) e.0 is in absurd (omega (arith, p.0, p.1))
    none false is = refl
any-repeated first (suc n) f e =
    (λ i. tied_entry e.0 first (fact_cmp e.1 f) i || any-repeated (suc first) n f e i)
    ∙ joined (eq_by_cmp fact_cmp e.1 f)
  where
    ranks : (eqb e.0 first || within (suc first) (suc first + n) e.0) ≡ within first (first + suc n) e.0
    ranks = same_bool _ _ (there (eqb e.0 first) refl) (λ h. back (eqb e.0 first) refl h)
      where
        there : (b : Bool) → eqb e.0 first ≡ b → (b || within (suc first) (suc first + n) e.0) ≡ true → within first (first + suc n) e.0 ≡ true
        there true is h = let at = eqb-true e.0 first is in within-from first (first + suc n) e.0 (omega (arith, at)) (omega (arith, at))
        there false is h = let p =
            within-true (suc first) (suc first + n) e.0 h in within-from first (first + suc n) e.0 (omega (arith, p.0)) (omega (arith, p.1))

        back : (b : Bool) → eqb e.0 first ≡ b → within first (first + suc n) e.0 ≡ true → (b || within (suc first) (suc first + n) e.0) ≡ true
        back true is h = refl
        back false is h =
            let p = within-true first (first + suc n) e.0 h in
            let apart : e.0 ≡ first → ⊥ = λ at. Rattle.std.proofs.lemmas.Bool.false≢true (sym is ∙ eq-eqb e.0 first at) in
            within-from (suc first) (suc first + n) e.0 (omega (arith, p.0, apart)) (omega (arith, p.1))

    joined : (c : Bool) → ((eqb e.0 first && c) || (within (suc first) (suc first + n) e.0 && c)) ≡ (within first (first + suc n) e.0 && c)
    joined true = plain _ _ ∙ ap (λ b. b && true) ranks
      where
        plain : (x y : Bool) → ((x && true) || (y && true)) ≡ ((x || y) && true)
        plain true y = refl
        plain false y = refl
    joined false = plain _ _ _
      where
        plain : (x y z : Bool) → ((x && false) || (y && false)) ≡ (z && false)
        plain true true true = refl
        plain true true false = refl
        plain true false true = refl
        plain true false false = refl
        plain false true true = refl
        plain false true false = refl
        plain false false true = refl
        plain false false false = refl

pub stretch : (first end r : ℕ) → within first (first + (end - first)) r ≡ within first end r
stretch first end r = same_bool _ _
    (λ h. let p = within-true first (first + (end - first)) r h in within-from first end r p.0 (omega (arith, p.0, p.1)))
    (λ h. let p = within-true first end r h in within-from first (first + (end - first)) r p.0 (omega (arith, p.0, p.1)))

any-facts_of : (table : Table) (runs : List Run) (e : Entry) → list_any (eq_by_cmp entry_cmp e) (facts_of table runs) ≡ list_any (has table e) runs
any-facts_of table [] e = refl
any-facts_of table (run ∷ runs) e =
    list_any-append (eq_by_cmp entry_cmp e) (repeated run.first (run.end - run.first) (fact_in table run.tag)) (facts_of table runs)
    ∙ (λ i. (any-repeated run.first (run.end - run.first) (fact_in table run.tag) e
    ∙ ap (λ b. b && eq_by_cmp fact_cmp e.1 (fact_in table run.tag)) (stretch run.first run.end e.0)) i || any-facts_of table runs e i)

-- a set made of runs contains what a run says
pub contains-runs : (table : Table) (runs : List Run) (e : Entry) → contains (from_list {R = entry_cmp} (facts_of table runs)) e ≡ list_any (has table e) runs
contains-runs table runs e = contains-from_list entry_total (facts_of table runs) e ∙ any-facts_of table runs e
