use Rattle.std.proofs.Common.{arith}
use Rattle.accepted_outputs.proofs.Places.{agree-all}
use Rattle.accepted_outputs.proofs.sessions.first_session.Goals as goal

pub returns : goal.returns
returns c = record {
  before = λ n lt. c.loop-session.invariant n (omega (arith, lt, c.loop-session-test.false));
  there = λ e. c.requires.differ
      (agree-all c.args.told.now c.args.accepted.now c.min-shorter.result c.min-shorter.ensures
      (λ n lt. c.loop-session.invariant n (omega (arith, lt, c.loop-session-test.false))) e);
}
