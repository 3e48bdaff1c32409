use Rattle.std.proofs.Common.{◌≡◌, drop}
use Rattle.lock_queues.specs.Reasons.{same_edges}
use Rattle.session_machine.proofs.telling.agree.Given as goal

-- those so far are the same
abbrev pub invariant-loop-number : goal.invariant-loop-number
invariant-loop-number l = same_edges (drop l.number l.old) (drop l.number l.new) ≡ same_edges l.old l.new
