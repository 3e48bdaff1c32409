use Rattle.std.proofs.Common.{arith, sym, ap, subst, ◌∙◌, length, ◌<◌}
use Rattle.event_tree.specs.Nodes.{list_at}
use Rattle.event_tree.proofs.Listing.{root-list, length-lists_of}
use Rattle.event_tree.proofs.tree.EventTree.root.Goals as goal

pub returns : goal.returns
returns g c =
    let nodes = c.self.inside.nodes.items in
    record {
      inside = subst (λ lists. 0 < length lists) c.self.view_is (let l = length-lists_of nodes in omega arith);
      list = ap (λ lists. list_at lists 0) (sym c.self.view_is) ∙ root-list nodes;
    }
