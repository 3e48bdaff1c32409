use Rattle.session_machine.specs.Showing.{IsCommitted}
use Rattle.session_machine.proofs.leaving.committed.Given as goal

abbrev pub invariant-loop-session : goal.invariant-loop-session
invariant-loop-session l = IsCommitted l.session l.store l.left
