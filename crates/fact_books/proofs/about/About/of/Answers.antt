use Rattle.std.proofs.Common.{sym, ◌∙◌, subst}
use Rattle.bound_specs.specs.Binding.{IsFileOf}
use Rattle.fact_books.proofs.BookLemmas.{about-is}
use Rattle.fact_books.proofs.about.About.of.Goals as goal

pub invariant_of-result : goal.invariant_of-result
invariant_of-result c =
    let is = subst (λ t. IsFileOf t c.args.spec.now) (sym (c.in_ok-text.ensures.ok ∙ c.text.ensures)) (c.known.ensures.of c.requires) in
    record { known = (c.args.spec.now, ∣ is ∣₁) }

pub returns : goal.returns
returns c =
    about-is _ c.args.spec.now
    (subst (λ t. IsFileOf t c.args.spec.now) (sym (c.in_ok-text.ensures.ok ∙ c.text.ensures)) (c.known.ensures.of c.requires)) c.ranks.ensures c.shape_of.ensures
