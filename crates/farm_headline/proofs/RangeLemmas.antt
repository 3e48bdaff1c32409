-- The facts of ranges are true.
use Rattle.std.proofs.Common.{sym, ◌∙◌, ℕ, Bool, ⊎_elim}
use Rattle.std.proofs.lemmas.Bool.{or_cases}
use Rattle.bound_specs.specs.Spec.{Spec}
use Rattle.rank_facts.specs.Facts.{IsFactOf, IsTrueAt}
use Rattle.rank_facts.specs.declared.fact.Fact.{Fact}
use Rattle.rank_facts.specs.declared.fact.Fact.TheVariants.{Ran, Swap}
use Rattle.fact_books.specs.Entries.{recorded}
use Rattle.fact_books.proofs.SetLemmas.{in_union}
use Rattle.farm_headline.specs.Laws.{RangesAreTrue, JoinsStayTrue}

pub fact-true : (reduce : Bool) (spec : Spec) (r : ℕ) (fact : Fact) → IsFactOf reduce spec r fact → IsTrueAt spec r fact
fact-true reduce spec r (Ran outcome) h = h.0
fact-true reduce spec r (Swap k) h = h.1.0

pub ranges-true : RangesAreTrue
ranges-true spec reduce first end facts a r fact h = fact-true reduce spec r fact ((a r fact).0 h).2

pub joins-true : JoinsStayTrue
joins-true spec a b x y r fact h = ⊎_elim (x r fact) (y r fact) (or_cases (recorded a r fact) (recorded b r fact) (sym (in_union a b (r, fact)) ∙ h))
