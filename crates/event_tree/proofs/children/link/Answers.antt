use Rattle.std.specs.Prelude.{◌-◌, ◌<◌, length}
use Rattle.std.proofs.Common.{rules, arith, ◌∙◌}
use Rattle.event_tree.proofs.Linking.{set-with_newest, linked-suc}
use Rattle.event_tree.proofs.children.link.Goals as goal

pub returns-clause-nodes : goal.returns-clause-nodes
returns-clause-nodes g c =
    let nodes = c.args.nodes.now.items in
    let lt : c.args.parent.index - 1 < length nodes = search rules in
    set-with_newest nodes (c.args.parent.index - 1) c.args.id c.index_mut.result.now (lt, c.index_mut.ensures.value)
    ∙ linked-suc nodes c.args.parent.index (c.args.parent.index - 1) c.args.id (omega arith)
