use Rattle.std.proofs.Common.{refl, sym, ap, ◌∙◌}
use Rattle.perm_ranks.specs.Blocks.{Block}
use Rattle.schedule_counts.proofs.Places.{place-taken, place-after}
use Rattle.schedule_counts.proofs.place.Place.take.Goals as goal

pub returns-clause-place : goal.returns-clause-place
returns-clause-place c = place-after c.args.spec.now.run c.args.self.now _ c.args.session c.in_ok-step.step c.requires.place c.requires.session (sym c.has.ensures ∙ c.if-not-has.false) c.in_ok-step.ensures.next refl (ap (λ (b : Block). b.left) c.narrowed-self.ensures.narrowed)

pub returns-clause-taken : goal.returns-clause-taken
returns-clause-taken c = place-taken c.args.spec.now.run c.args.self.now _ c.args.session c.in_ok-step.step c.requires.place c.requires.session (sym c.has.ensures ∙ c.if-not-has.false) c.in_ok-step.ensures.next refl (ap (λ (b : Block). b.left) c.narrowed-self.ensures.narrowed)
