use Rattle.std.proofs.Common.{◌≤◌}
use Rattle.known_worlds.proofs.MoveLemmas.{StaysMarked}
use Rattle.known_worlds.proofs.moves.newest_mark.Given as goal

-- behind the place no mark is set
abbrev pub invariant-later : goal.invariant-later
invariant-later l = record {
  few : l.left ≤ l.end;
  stays : StaysMarked l.path l.left l.end;
}

abbrev pub decreases-later : goal.decreases-later
decreases-later l = l.left
