use Rattle.std.specs.Prelude.{◌≡◌, ◌≤◌, ◌<◌, ◌-◌, ◌∷◌, ◌++◌, [], suc, length}
use Rattle.std.proofs.Common.{rules, arith, sym, ap, ◌∙◌}
use Rattle.event_tree.specs.Nodes.{list_at, lists_of, IsAt}
use Rattle.event_tree.proofs.Listing.{inside-nodes, root-list}
use Rattle.event_tree.proofs.tree.EventTree.split_last.Goals as goal

pub returns-then-id-eq0-clause-list : goal.returns-then-id-eq0-clause-list
returns-then-id-eq0-clause-list g c =
    let zero : c.args.id.index ≡ 0 = omega arith in
    ap (list_at c.args.self.now) zero ∙ ap (λ lists. list_at lists 0) (sym c.self.view_is) ∙ root-list c.self.inside.nodes.items

pub index-node-requires : goal.index-node-requires
index-node-requires g c =
    let nodes = c.self.inside.nodes.items in
    let inside : c.args.id.index ≤ length nodes = inside-nodes nodes _ c.args.id.index c.self.view_is c.requires in
    let lt : c.args.id.index - 1 < length nodes = omega arith in
    search rules

pub returns-clause-inside : goal.returns-clause-inside
returns-clause-inside g c =
    let nodes = c.self.inside.nodes.items in
    let number = c.args.id.index in
    let inside : number ≤ length nodes = inside-nodes nodes _ number c.self.view_is c.requires in
    let at : IsAt nodes (number - 1) c.index-node.result.now = (omega arith, c.index-node.ensures) in
    let earlier = (c.self.invariant.are_nodes (number - 1) c.index-node.result.now at).earlier in
    let has = c.requires in
    omega (arith, earlier, has)

pub returns-clause-list : goal.returns-clause-list
returns-clause-list g c =
    let nodes = c.self.inside.nodes.items in
    let number = c.args.id.index in
    let inside : number ≤ length nodes = inside-nodes nodes _ number c.self.view_is c.requires in
    let at : IsAt nodes (number - 1) c.index-node.result.now = (omega arith, c.index-node.ensures) in
    let same : suc (number - 1) ≡ number = omega arith in
    ap (λ lists. list_at lists number) (sym c.self.view_is) ∙ ap (list_at (lists_of nodes)) (sym same)
    ∙ (c.self.invariant.are_nodes (number - 1) c.index-node.result.now at).list
    ∙ ap (λ lists. list_at lists c.index-node.result.now.parent.index ++ c.index-node.result.now.event ∷ []) c.self.view_is
