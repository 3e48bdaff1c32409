use Rattle.std.proofs.Common.{◌≡◌}
use Rattle.session_machine.specs.Telling.{still_told}
use Rattle.session_machine.proofs.telling.still_of.Given as goal

abbrev pub invariant-loop-other : goal.invariant-loop-other
invariant-loop-other l = l.still ≡ still_told l.other l.count l.session l.before l.after
