use Rattle.std.proofs.Common.{false, arith}
use Rattle.step_reducer.specs.Saying.{giving_of}
use Rattle.step_reducer.specs.Walking.{walk_told}
use Rattle.step_reducer.proofs.Walkings.{onward-moved, part-given}
use Rattle.step_reducer.proofs.shard_walk.ShardWalk.next_run.Goals as goal

pub next_run-requires-clause-going : goal.next_run-requires-clause-going
next_run-requires-clause-going c = (c.self.invariant.walk c.if-self.false).going

pub next_run-requires-clause-inside : goal.next_run-requires-clause-inside
next_run-requires-clause-inside c =
    let to = (c.self.invariant.walk c.if-self.false).to in
    let inside = c.self.invariant.inside in
    omega (arith, to, inside)

pub invariant_of-self-2 : goal.invariant_of-self-2
invariant_of-self-2 c =
    let x = c.self.inside in
    let moved = c.in_ok-given.ensures.moved in
    record {
      walk = λ whole. onward-moved x.spec.now x.reduce x.at x.end x.walk (giving_of (walk_told c.next_run.new.self) c.in_ok-given.given) c.next_run.new.self (c.self.invariant.walk c.if-self.false) moved;
      order = moved.few;
      inside = c.self.invariant.inside;
    }

pub returns-clause-run : goal.returns-clause-run
returns-clause-run c =
    let x = c.self.inside in
    part-given x.spec.now x.reduce x.at x.end (walk_told x.walk) x.is_spent x.walk c.in_ok-given.given c.next_run.new.self c.args.self.now
    (c.self.invariant.walk c.if-self.false) c.in_ok-given.ensures.moved c.if-self.false c.self.view_is
