use Rattle.std.specs.Prelude.{◌≤◌, length}
use Rattle.std.proofs.Common.{sym, subst, inr}
use Rattle.event_tree.specs.Nodes.{HasNoChild, IsChild}
use Rattle.event_tree.proofs.Listing.{inside-nodes}
use Rattle.event_tree.proofs.Adding.{sound-with_child, lists-with_child, has-new_id, list-new_id, has-child, list-of-child, keeps-grown}
use Rattle.event_tree.proofs.tree.EventTree.child.Goals as goal

pub newest_child-newest-requires-clause-inside : goal.newest_child-newest-requires-clause-inside
newest_child-newest-requires-clause-inside g c =
    subst (λ nodes. c.args.parent.index ≤ length nodes) (sym c.as_slice.ensures.value)
    (inside-nodes c.self.inside.nodes.items _ c.args.parent.index c.self.view_is c.requires)

pub returns-in-Some-clause-inside : goal.returns-in-Some-clause-inside
returns-in-Some-clause-inside g c =
    let nodes = c.self.inside.nodes.items in
    rw (← c.self.view_is)
    (has-child nodes c.args.parent c.args.event c.in-Some.id
    (subst (λ ns. IsChild ns c.args.parent.index c.args.event c.in-Some.id) c.as_slice-2.ensures.value c.in-Some.ensures))

pub returns-in-Some-clause-list : goal.returns-in-Some-clause-list
returns-in-Some-clause-list g c =
    let nodes = c.self.inside.nodes.items in
    rw (← c.self.view_is)
    (list-of-child nodes c.args.parent c.args.event c.in-Some.id c.self.invariant.are_nodes
    (subst (λ ns. IsChild ns c.args.parent.index c.args.event c.in-Some.id) c.as_slice-2.ensures.value c.in-Some.ensures))

pub add_child-requires-clause-inside : goal.add_child-requires-clause-inside
add_child-requires-clause-inside g c = inside-nodes c.self.inside.nodes.items _ c.args.parent.index c.self.view_is c.requires

pub invariant_of-self-2 : goal.invariant_of-self-2
invariant_of-self-2 g c =
    let nodes = c.self.inside.nodes.items in
    rw (c.in_ok-id.ensures.top, c.in_ok-id.ensures.nodes)
    (sound-with_child nodes c.args.parent c.args.event c.self.inside.top c.self.invariant (inside-nodes nodes _ c.args.parent.index c.self.view_is c.requires)
    (subst (λ ns. HasNoChild ns c.args.parent.index c.args.event) c.as_slice-2.ensures.value c.in_default.ensures))

pub returns-clause-inside : goal.returns-clause-inside
returns-clause-inside g c =
    rw (c.in_ok-id.ensures.nodes, c.in_ok-id.ensures.id) (has-new_id c.self.inside.nodes.items c.args.parent c.args.event)

pub returns-clause-list : goal.returns-clause-list
returns-clause-list g c =
    rw (c.in_ok-id.ensures.nodes, c.in_ok-id.ensures.id, ← c.self.view_is) (list-new_id c.self.inside.nodes.items c.args.parent c.args.event)

pub returns-clause-grows : goal.returns-clause-grows
returns-clause-grows g c =
    rw (c.in_ok-id.ensures.nodes, ← c.self.view_is) (inr (lists-with_child c.self.inside.nodes.items c.args.parent c.args.event))

pub returns-clause-keeps : goal.returns-clause-keeps
returns-clause-keeps g c = keeps-grown _ _ _ (returns-clause-grows g c)
