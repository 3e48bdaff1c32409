use Rattle.std.proofs.Common.{◌∷◌}
use Rattle.version_tree.proofs.EntriesLemmas.{regrouped, sorted_behind, sorted_regrouped, sorted_inner_left, sorted_inner_right}
use Rattle.version_tree.proofs.NodeLemmas.{at_node}
use Rattle.version_tree.proofs.tree.Node.raise_from_left.Goals as goal

pub join-requires-clause-in_order : goal.join-requires-clause-in_order
join-requires-clause-in_order g c =
    let inner = at_node c.middle.view_is c.middle.invariant c.in-Some.is in
    let all = rw inner.entries at c.requires.in_order in
    rw c.deref.ensures (sorted_inner_left g.K.Ord.cmp _ (_ ∷ _) _ _ (sorted_inner_left g.K.Ord.cmp _ (_ ∷ _) _ _ all))

pub join-requires-2-clause-in_order : goal.join-requires-2-clause-in_order
join-requires-2-clause-in_order g c =
    let inner = at_node c.middle.view_is c.middle.invariant c.in-Some.is in
    let all = rw inner.entries at c.requires.in_order in
    rw c.deref-2.ensures (sorted_inner_right g.K.Ord.cmp _ _ _ _ (sorted_behind g.K.Ord.cmp _ _ _ all))

-- the entries after the two rotations, and before
pub join-requires-3-clause-in_order : goal.join-requires-3-clause-in_order
join-requires-3-clause-in_order g c =
    let inner = at_node c.middle.view_is c.middle.invariant c.in-Some.is in
    let all = rw inner.entries at c.requires.in_order in
    rw (
      c.in_ok-lower_left.ensures.entries,
      c.in_ok-lower_right.ensures.entries,
      c.deref.ensures,
      c.deref-2.ensures,
      c.deref-3.ensures,
    ) (sorted_regrouped g.K.Ord.cmp _ _ _ _ _ _ _ all)

pub returns-clause-entries : goal.returns-clause-entries
returns-clause-entries g c =
    let inner = at_node c.middle.view_is c.middle.invariant c.in-Some.is in
    let all = rw (
      c.in_ok-lower_left.ensures.entries,
      c.in_ok-lower_right.ensures.entries,
      c.deref.ensures,
      c.deref-2.ensures,
      c.deref-3.ensures,
    ) at c.join-3.ensures.entries in
    rw inner.entries (rw regrouped at all)
