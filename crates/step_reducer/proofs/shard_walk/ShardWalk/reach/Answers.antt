use Rattle.std.proofs.Common.{◌≡◌, sym, ap, subst, ◌≤◌, arith}
use Rattle.bound_specs.specs.Spec.{SpecFile, ranks}
use Rattle.step_reducer.specs.Shardwise.{Shardwise, IsOnward}
use Rattle.step_reducer.proofs.Walkings.{onward-later}
use Rattle.step_reducer.proofs.shard_walk.ShardWalk.reach.Goals as goal

pub invariant_of-self : goal.invariant_of-self
invariant_of-self c =
    let x = c.self.inside in
    let rank = c.args.shard.first in
    let at : x.at ≡ c.args.self.now.at = ap (λ (v : Shardwise). v.at) c.self.view_is in
    let file : x.spec.now ≡ c.args.self.now.file = ap (λ (v : Shardwise). v.file) c.self.view_is in
    let later : x.at ≤ rank = omega (arith, at, c.requires.later) in
    record {
      walk = λ whole. subst (IsOnward x.spec.now x.reduce rank) (sym c.reach.ensures)
          (onward-later x.spec.now x.reduce x.at rank x.walk later (c.self.invariant.walk whole));
      order = c.requires.lawful.order;
      inside = subst (λ (f : SpecFile). c.args.shard.end ≤ ranks f.run) (sym file) c.requires.lawful.inside;
    }
