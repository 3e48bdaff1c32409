use Rattle.std.proofs.Common.{ap, sym, ◌∙◌, eqb-true, eq-eqb}
use Rattle.event_tree.specs.Nodes.{list_at}
use Rattle.event_tree.proofs.Listing.{inside-nodes}
use Rattle.event_tree.proofs.tree.EventTree.is_same.Goals as goal

pub returns : goal.returns
returns g c =
    let nodes = c.self.inside.nodes.items in
    let lists = c.args.self.now in
    let one = c.args.one.index in
    let other = c.args.other.index in
    let apart = c.self.invariant.apart one other (inside-nodes nodes lists one c.self.view_is c.requires.one) (inside-nodes nodes lists other c.self.view_is c.requires.other) in (
      λ e. ap (list_at lists) (eqb-true one other e),
      λ e. eq-eqb one other (apart (ap (λ ls. list_at ls one) c.self.view_is ∙ e ∙ sym (ap (λ ls. list_at ls other) c.self.view_is))),
    )
