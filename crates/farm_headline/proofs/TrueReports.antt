-- Reports of true facts.
use Rattle.std.proofs.Common.{◌≡◌, refl, sym, subst, ◌∙◌, ℕ, zero, suc, ◌≤◌, ◌++◌, true, List, [], get_or, Some}
use Rattle.std.proofs.Common.{arith}
use Rattle.bound_specs.specs.Spec.{ranks}
use Rattle.bound_specs.specs.Binding.{IsFileOf}
use Rattle.transcripts.specs.Text.{rank_text, outcome_text}
use Rattle.rank_facts.specs.Swap.{leads_in}
use Rattle.rank_facts.specs.Values.{ran, swap, AllTrue, CoverEachRank, TellTheMachine}
use Rattle.rank_facts.specs.declared.fact.Fact.{Fact}
use Rattle.rank_facts.specs.declared.fact.Fact.TheVariants.{Ran, Swap}
use Rattle.rank_facts.proofs.Leading.{leads-down}
use Rattle.rank_facts.proofs.TrueValues.{tell-the-machine}
use Rattle.fact_books.specs.declared.error.ReportError.TheVariants.{Missing, Clash}
use Rattle.fact_books.specs.Entries.{Told, recorded}
use Rattle.fact_books.specs.Books.{Contents, AllRecordable}
use Rattle.fact_books.specs.Values.{AreValues, IsMissing, IsNotReported}
use Rattle.bound_specs.proofs.FileLemmas.{file-is-bound}
use Rattle.spec_commands.specs.One.{IsAnswer}
use Rattle.book_commands.specs.Reporting.{values_text, IsReportText}
use Rattle.farm_headline.specs.Laws.{AreAnswers, ReportsAreTheMachines, CoveringReports}

module _ (book : Contents) (is : IsFileOf book.file.text book.file) (all : AllTrue book.file.run (recorded book.facts)) where
  tells : TellTheMachine book.file.run (recorded book.facts)
  tells = tell-the-machine book.file.run (file-is-bound _ _ is) (recorded book.facts) all

  answers : (values : List Told) → AreValues book.facts (leads_in book.file.run) (ranks book.file.run) values → (n : ℕ) → n ≤ ranks book.file.run
      → AreAnswers book.file n (values_text book.file values n)
  answers values are zero few = refl
  answers values are (suc n) few = (_, _, answers values are n (omega (arith, few)), answer, refl)
    where
      answer : IsAnswer book.file n (rank_text n ++ outcome_text book.file.session_names book.file.step_names (get_or values n []))
      answer = record {
        rank_is = omega (arith, few);
        outcome = get_or values n [];
        outcome_is = tells.never_another n (get_or values n []) (are.each n (omega (arith, few))).value;
        text_is = refl;
      }

  pub report-answers : (text : List ℕ) → IsReportText book text → AreAnswers book.file (ranks book.file.run) text
  report-answers text h = subst (AreAnswers book.file (ranks book.file.run)) (sym h.text_is) (answers h.values h.are (ranks book.file.run) (omega arith))

  some-same : (a b : Told) → Some a ≡ Some b → a ≡ b
  some-same a b e = cc

  pub none-clash : (r : ℕ) → IsNotReported book (Clash r) → ⊥
  none-clash r h =
      let two = h.1.two in
      two.4 (some-same two.0 two.1 (sym (tells.never_another r two.0 two.2) ∙ tells.never_another r two.1 two.3))

  pub none-missing : CoverEachRank book.file.run (recorded book.facts) → (r : ℕ) → IsNotReported book (Missing r) → ⊥
  none-missing covers r h = let v = tells.each_has_one covers r h.1.inside in h.1.none v.0 v.1

pub reports-are : ReportsAreTheMachines
reports-are book text is all h = report-answers book is all text h

pub covering : CoveringReports
covering book r is all = (none-clash book is all r, λ covers. none-missing book is all covers r)

-- a rank that has a fact is not told as missing: where that is a swap, each smaller rank has a value
pub told-none-missing : (book : Contents) → AllRecordable book.file.run book.facts → (r : ℕ)
    → IsMissing book.facts (leads_in book.file.run) (ranks book.file.run) r → (fact : Fact) → recorded book.facts r fact ≡ true → ⊥
told-none-missing book lawful r m (Ran outcome) has = m.none outcome (ran has)
told-none-missing book lawful r m (Swap k) has =
    let leads = (lawful r (Swap k) has).2 in
    let below = m.below leads.0 (leads-down book.file.run r k leads.0 leads.1) in
    m.none below.0 (swap has leads.1 below.1.value)
