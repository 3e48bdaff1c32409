use Rattle.std.proofs.Common.{ap, ◌∙◌}
use Rattle.finite_maps.specs.Map.{get}
use Rattle.book_stretches.proofs.Numbered.{get-numbers}
use Rattle.book_stretches.proofs.numbers.Numbers.get.Goals as goal

-- a look-up in the tree map is one in the finite map
pub returns : goal.returns
returns c = c.get.ensures.value ∙ get-numbers c.self.inside.numbers.entries c.args.outcome.now ∙ ap (λ numbers. get numbers c.args.outcome.now) c.self.view_is
