use Rattle.std.proofs.Common.{◌+◌, ◌-◌, ◌/◌, ◌<◌, ◌≤◌, arith}
use Rattle.class_stretches.specs.Growing.{end_at}
use Rattle.class_stretches.proofs.Places.{ends-rise}
use Rattle.class_stretches.proofs.list.place_of.Goals as goal

pub loop-low-preserved-then-list-middle : goal.loop-low-preserved-then-list-middle
loop-low-preserved-then-list-middle c =
    let list = c.args.list.now in
    let middle = c.loop-low.low + (c.loop-low.high - c.loop-low.low) / 2 in
    let inside = c.loop-low.invariant.inside in
    let test = c.loop-low-test.true in
    let below : middle < c.loop-low.high = omega (arith, test) in
    record {
      ordered = omega (arith, below);
      inside = inside;
      before = λ k lt.
          (let rise : end_at list k ≤ end_at list middle = ends-rise 0 list k middle c.requires (omega (arith, lt)) (omega (arith, below, inside)) in
          omega (arith, rise, c.if-list-middle.true));
      behind = c.loop-low.invariant.behind;
    }
