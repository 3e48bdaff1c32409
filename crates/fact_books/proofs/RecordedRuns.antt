-- What runs from elsewhere say, and where swaps lead along their ranks.
use Rattle.std.proofs.Common.{◌≡◌, sym, subst, ◌∙◌, ℕ, ◌+◌, ◌-◌, ◌<◌, ◌≤◌, true, false, List, [], ◌∷◌, length, Option, Some, None}
use Rattle.std.proofs.Common.{⊎_elim, ◌⊎◌, arith}
use Rattle.std.proofs.lemmas.Bool.{or_cases}
use Rattle.std.specs.List.{list_any}
use Rattle.bound_specs.specs.Spec.{Spec, SpecFile}
use Rattle.rank_facts.specs.declared.fact.Fact.{Fact}
use Rattle.rank_facts.specs.Swap.{leads_in}
use Rattle.fact_books.specs.declared.about.About.{About}
use Rattle.fact_books.specs.declared.leading.Lead.{Lead}
use Rattle.fact_books.specs.declared.leading.Lead.TheVariants.{Value, From, Nowhere}
use Rattle.fact_books.specs.declared.run.Run.{Run}
use Rattle.fact_books.specs.declared.run.Tag.TheVariants.{Ran, Swap}
use Rattle.fact_books.specs.About.{IsShapeOf}
use Rattle.fact_books.specs.Runs.{Table, fact_in, within, has, firsts, IsRising, AllSound}
use Rattle.fact_books.specs.Books.{IsRecordable, AllRecordable, facts_in, IsAboutOf, IsBook}
use Rattle.fact_books.specs.Values.{Leads}
use Rattle.fact_books.specs.Sweep.{leads_of, IsLead}
use Rattle.fact_books.specs.Recording.{LeadsAlong, EachRun, IsRecordableRun, is_from}
use Rattle.fact_books.proofs.Orders.{tied_facts}
use Rattle.fact_books.proofs.RunLemmas.{both_true, within-true}
use Rattle.fact_books.proofs.SetLemmas.{contains-runs}
use Rattle.fact_books.proofs.ReportLemmas.{same-leads}

-- what some run says may stand in a book, where it is so of each
any-recordable : (spec : Spec) (table : Table) (runs : List Run) (r : ℕ) (fact : Fact) → EachRun (IsRecordableRun spec table) runs
    → list_any (has table (r, fact)) runs ≡ true → IsRecordable spec r fact
any-recordable spec table [] r fact all h = absurd (let f : false ≡ true = h in cc)
any-recordable spec table (run ∷ runs) r fact all h = ⊎_elim
    (λ here.
    let p = both_true (within run.first run.end r) _ here in
    let w = within-true run.first run.end r p.0 in
    subst (IsRecordable spec r) (sym (tied_facts fact (fact_in table run.tag) p.1)) (all.0 r w.0 w.1))
    (any-recordable spec table runs r fact all.1)
    (or_cases _ _ h)

pub runs-recordable : (spec : Spec) (table : Table) (runs : List Run) → EachRun (IsRecordableRun spec table) runs → AllRecordable spec (facts_in table runs)
runs-recordable spec table runs all r fact h = any-recordable spec table runs r fact all (sym (contains-runs table runs (r, fact)) ∙ h)

pub made-book : (about new : About) (file : SpecFile) (table given : Table) (runs : List Run) → new ≡ about → IsAboutOf file about → table ≡ given
    → IsRising (firsts runs) → AllSound (length given) runs → EachRun (IsRecordableRun file.run given) runs → IsBook new table runs
made-book about new file table given runs here is same rising sound all =
    subst (λ a. IsBook a table runs) (sym here) (subst (λ t. IsBook about t runs) (sym same) (record {
      about_is = is.is_about;
      kept = record { rising = rising; sound = sound };
      recordable = subst (λ (f : SpecFile). AllRecordable f.run (facts_in given runs)) (sym is.file_is) (runs-recordable file.run given runs all);
    }))

-- ---- where swaps lead

module _ (leads : Leads) (k rank last : ℕ) where
  pub lead-along : (lead : Lead) → IsLead leads rank last (Swap k) lead → is_from lead ≡ true → LeadsAlong leads k rank last
  lead-along (Value n) is from = absurd (let f : false ≡ true = from in cc)
  lead-along (From b) is from = λ r low lt.
      let same : is.0 ≡ k = (let f : Swap k ≡ Swap is.0 = is.1 in cc) in
      let at : rank + (r - rank) ≡ r = omega (arith, low) in (
        b + (r - rank),
        subst (λ n. leads n k ≡ Some (b + (r - rank))) at (subst (λ j. leads (rank + (r - rank)) j
            ≡ Some (b + (r - rank))) same (is.2 (r - rank) (omega (arith, at, lt)))),
      )
  lead-along Nowhere is from = absurd (let f : false ≡ true = from in cc)

  pub lead-not : (lead : Lead) (end : ℕ) → rank < last → rank < end → IsLead leads rank last (Swap k) lead → is_from lead ≡ false
      → LeadsAlong leads k rank end → ⊥
  lead-not (Value n) end some lt is from all = (let f : Swap k ≡ Ran n = is in cc)
  lead-not (From b) end some lt is from all = (let f : true ≡ false = from in cc)
  lead-not Nowhere end some lt is from all =
      let same : is.0 ≡ k = (let f : Swap k ≡ Swap is.0 = is.1 in cc) in
      let at : rank + 0 ≡ rank = omega arith in
      let none : leads rank k ≡ None = subst (λ n. leads n k ≡ None) at (subst (λ j. leads (rank + 0) j ≡ None) same (is.2 0 (omega (arith, some)))) in
      let found = all rank (omega arith) lt in
      (let f : None ≡ Some found.0 = sym none ∙ found.1 in cc)

-- ranks up to here, and those of a block behind them
pub along-more : (leads : Leads) (k first rank last : ℕ) → LeadsAlong leads k first rank → LeadsAlong leads k rank last → LeadsAlong leads k first last
along-more leads k first rank last a b r low lt =
    let cases : (r < rank) ⊎ (rank ≤ r) = grind arith in
    ⊎_elim (λ h. a r low h) (λ h. b r h lt) cases

pub along-from : (leads : Leads) (k first rank end : ℕ) → first ≤ rank → LeadsAlong leads k first end → LeadsAlong leads k rank end
along-from leads k first rank end le all r low lt = all r (omega (arith, le, low)) lt

pub along-same : (run : Spec) (shape : Option (List ℕ)) (k first end : ℕ) → IsShapeOf run shape → LeadsAlong (leads_of shape) k first end
    → LeadsAlong (leads_in run) k first end
along-same run shape k first end is all r low lt = let h = all r low lt in (h.0, sym (same-leads run shape is r k) ∙ h.1)

pub along-back : (run : Spec) (shape : Option (List ℕ)) (k first end : ℕ) → IsShapeOf run shape → LeadsAlong (leads_in run) k first end
    → LeadsAlong (leads_of shape) k first end
along-back run shape k first end is all r low lt = let h = all r low lt in (h.0, same-leads run shape is r k ∙ h.1)
