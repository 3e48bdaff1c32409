use Rattle.std.proofs.Common.{◌≡◌}
use Rattle.session_machine.specs.SharedStage.{staged_of}
use Rattle.session_machine.specs.Showing.{standings_in}
use Rattle.session_machine.proofs.stage.SharedStage.standings.Given as goal

abbrev pub invariant-loop-session : goal.invariant-loop-session
invariant-loop-session l = l.all ≡ standings_in l.session l.count (staged_of l.self)
