use Rattle.std.proofs.Common.{◌≡◌, ap, ◌-◌, None, arith}
use Rattle.step_reducer.specs.Fronts.{sent_by}
use Rattle.step_reducer.specs.Walking.{IsStanding}
use Rattle.step_reducer.proofs.walker.Walker.new.Goals as goal

pub invariant_of-result : goal.invariant_of-result
invariant_of-result c =
    let file = c.args.spec.now in
    let none : 0 ≡ c.args.shard.first - c.args.shard.first = omega arith in
    let stands : IsStanding file c.args.reduce c.args.shard.first c.args.shard.first c.args.shard.end 0 c.in_ok-walk.walk None = record {
      walk = c.in_ok-walk.ensures.walk;
      rest_is = c.in_ok-walk.ensures.at;
      from = omega arith;
      few = c.in_ok-check.ensures.lawful.few;
      sent_few = omega arith;
    } in (λ whole. stands, λ run. ap (sent_by file.run c.args.shard.first) none)
