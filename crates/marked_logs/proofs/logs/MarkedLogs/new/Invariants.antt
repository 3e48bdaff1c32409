use Rattle.std.proofs.Common.{◌≡◌, [], replicate}
use Rattle.marked_logs.proofs.logs.MarkedLogs.new.Given as goal

-- so many sessions were told nothing
abbrev pub invariant-loop-session : goal.invariant-loop-session
invariant-loop-session g l = l.logs ≡ record { list = replicate l._session l.nothing; marked = [] }
