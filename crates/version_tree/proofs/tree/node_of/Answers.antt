use Rattle.std.proofs.Common.{length, length-append, arith}
use Rattle.version_tree.proofs.HeightLemmas.{full_over}
use Rattle.version_tree.proofs.tree.node_of.Goals as goal

pub invariant_of-result : goal.invariant_of-result
invariant_of-result g c =
    rw c.in_ok-root.ensures.ok (
    record {
      in_order = c.requires.in_order;
      height = omega arith;
      balanced = c.requires.balanced;
      full = rw length-append (full_over c.args.left.height c.args.right.height (length c.args.left.entries) (length c.args.right.entries) _
          c.height.ensures.low c.height-2.ensures.low c.requires.balanced.0 c.requires.balanced.1 (omega arith));
    }
    )
