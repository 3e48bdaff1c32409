use Rattle.std.proofs.Common.{ap, ◌∙◌}
use Rattle.finite_maps.specs.Map.{insert}
use Rattle.book_stretches.proofs.Numbered.{put-numbers}
use Rattle.book_stretches.proofs.numbers.Numbers.put.Goals as goal

-- an insert to the tree map is one to the finite map
pub returns-clause-ok : goal.returns-clause-ok
returns-clause-ok c = put-numbers c.self.inside.numbers.entries c.insert.new.self.entries c.args.outcome c.args.number c.in_ok-insert.ensures.updates.0
    ∙ ap (λ numbers. insert numbers c.args.outcome c.args.number) c.self.view_is
