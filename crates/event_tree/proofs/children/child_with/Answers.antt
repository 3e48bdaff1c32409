use Rattle.std.specs.Prelude.{◌≡◌, ◌≤◌, ◌<◌, suc, length}
use Rattle.std.proofs.Common.{arith, sym, ap, subst, ◌∙◌}
use Rattle.std.proofs.lemmas.Bool.{both_ways}
use Rattle.event_tree.specs.Nodes.{bound, parents_of, NoneFrom}
use Rattle.event_tree.proofs.Newest.{IsNewest, newest-is}
use Rattle.event_tree.proofs.Listing.{parent-at}
use Rattle.event_tree.proofs.Searching.{sibling-newest, none-from-sibling, child-at}
use Rattle.event_tree.proofs.children.child_with.Goals as goal

pub loop-next-init : goal.loop-next-init
loop-next-init g c =
    let nodes = c.args.nodes.now in
    let parents = parents_of nodes in
    let p = c.args.parent.index in
    let w : IsNewest parents p (length nodes) c.args.first =
    subst (IsNewest parents p (length nodes)) (sym c.requires.first) (newest-is parents p (length nodes)) in
    record { inside = w.inside; again = w.again; none = λ place node le at q e. w.none place le at.0 (parent-at nodes place node at ∙ q) }

pub returns-then-is_same : goal.returns-then-is_same
returns-then-is_same g c =
    let nodes = c.args.nodes.now in
    let p = c.args.parent.index in
    let id = c.in-Some.id in
    let node = c.index-nodes-id.result in
    let it = child-at nodes p c.loop-next.next id node c.in-Some.is c.loop-next.invariant.again c.loop-next.invariant.inside c.index-nodes-id.is in
    record { place = it.0; node = node; number = it.1; at = it.2; parent_is = it.3; same = c.is_same.ensures.0 c.if-is_same.true }

pub loop-next-smaller : goal.loop-next-smaller
loop-next-smaller g c =
    let nodes = c.args.nodes.now in
    let p = c.args.parent.index in
    let id = c.in-Some.id in
    let node = c.index-nodes-id.result in
    let it = child-at nodes p c.loop-next.next id node c.in-Some.is c.loop-next.invariant.again c.loop-next.invariant.inside c.index-nodes-id.is in
    let before : bound node.older_sibling ≤ it.0 = (sibling-newest nodes p it.0 node c.requires.nodes it.2 it.3).inside in
    let here : bound c.loop-next.next ≡ suc it.0 = ap bound c.in-Some.is ∙ it.1 in
    let less : bound node.older_sibling < bound c.loop-next.next = omega (arith, before, here) in
    less

pub loop-next-preserved : goal.loop-next-preserved
loop-next-preserved g c =
    let nodes = c.args.nodes.now in
    let p = c.args.parent.index in
    let id = c.in-Some.id in
    let node = c.index-nodes-id.result in
    let it = child-at nodes p c.loop-next.next id node c.in-Some.is c.loop-next.invariant.again c.loop-next.invariant.inside c.index-nodes-id.is in
    let older = sibling-newest nodes p it.0 node c.requires.nodes it.2 it.3 in
    let from : NoneFrom nodes p c.args.event.now (suc it.0) =
    subst (NoneFrom nodes p c.args.event.now) it.1 (subst (λ o. NoneFrom nodes p c.args.event.now (bound o)) c.in-Some.is c.loop-next.invariant.none) in
    record {
      inside = (let lt = it.2.0 in let le = older.inside in omega (arith, lt, le));
      again = older.again;
      none = none-from-sibling nodes p it.0 node c.args.event.now c.requires.nodes it.2 it.3
          (λ e. both_ways c.is_same.result c.if-is_same.false (c.is_same.ensures.1 e)) from;
    }
