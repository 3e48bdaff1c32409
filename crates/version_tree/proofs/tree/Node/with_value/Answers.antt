use Rattle.version_tree.proofs.tree.Node.with_value.Goals as goal

pub join-requires-clause-in_order : goal.join-requires-clause-in_order
join-requires-clause-in_order g c = rw c.in_ok-entry.ensures c.requires.in_order

pub returns-clause-entries : goal.returns-clause-entries
returns-clause-entries g c = rw c.in_ok-entry.ensures at c.join.ensures.entries
