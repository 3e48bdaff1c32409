use Rattle.std.proofs.Common.{arith}
use Rattle.bound_specs.proofs.WalkLemmas.{line-no_session, line-none_left, line-next}
use Rattle.bound_specs.proofs.walking.take_step.Goals as goal

pub returns-then-letter-sessions-clause-line : goal.returns-then-letter-sessions-clause-line
returns-then-letter-sessions-clause-line c = λ word. line-no_session c.args.steps.now c.args.sessions c.args.letter c.args.next.now word
    c.if-letter-sessions.true

pub returns-in_err-step-clause-line : goal.returns-in_err-step-clause-line
returns-in_err-step-clause-line c = rw c.from_residual.ensures (λ word.
    line-none_left c.args.steps.now c.args.sessions c.args.letter c.args.next.now word c.if-letter-sessions.false c.in_err-step.ensures.next)

pub returns-clause-line : goal.returns-clause-line
returns-clause-line c = λ word. line-next c.args.steps.now c.args.sessions c.args.letter c.in_ok-step.step c.args.next.now word c.if-letter-sessions.false
    (omega arith) c.in_ok-step.ensures.next
