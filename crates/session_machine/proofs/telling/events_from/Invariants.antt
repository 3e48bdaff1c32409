use Rattle.std.proofs.Common.{◌≡◌, ◌++◌, drop}
use Rattle.session_machine.proofs.telling.events_from.Given as goal

-- with those that are left they are all
abbrev pub invariant-loop-number : goal.invariant-loop-number
invariant-loop-number l = l.rest ++ drop l.number l.events ≡ drop l.from l.events
