use Rattle.session_machine.proofs.Committed.{committed-more}
use Rattle.session_machine.proofs.leaving.committed.Goals as goal

pub loop-session-preserved : goal.loop-session-preserved
loop-session-preserved c = committed-more c.loop-session.session c.args.store.now c.loop-session.left c.undo.new.self c.loop-session.invariant c.in_ok-undo.ensures.ok
