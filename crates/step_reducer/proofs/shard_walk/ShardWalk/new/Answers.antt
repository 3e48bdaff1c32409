use Rattle.std.proofs.Common.{subst}
use Rattle.bound_specs.specs.Spec.{ranks}
use Rattle.step_reducer.specs.Walking.{IsWalkOf}
use Rattle.step_reducer.proofs.Walkings.{going-of, all-ranks}
use Rattle.step_reducer.proofs.shard_walk.ShardWalk.new.Goals as goal

pub invariant_of-result : goal.invariant_of-result
invariant_of-result c =
    let file = c.args.spec.now in
    let reduce = c.args.reduce in
    let first = c.args.shard.first in
    let walk = c.in_ok-walk.walk in
    let is : IsWalkOf file reduce first (ranks file.run) walk = subst (λ end. IsWalkOf file reduce first end walk) c.ranks.ensures c.in_ok-walk.ensures.walk in
    record {
      walk = λ whole. record { going = going-of file reduce first (ranks file.run) walk is; to = all-ranks file reduce first walk is; here = c.in_ok-walk.ensures.at };
      order = c.in_ok-check.ensures.lawful.order;
      inside = c.in_ok-check.ensures.lawful.inside;
    }
