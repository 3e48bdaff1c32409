use Rattle.book_format.specs.Canonical.{AreInTurn, IsTagSorted, IsJoining, IsJoiningInTurn}
use Rattle.book_format.proofs.canonical.longest.Given as goal

-- by either order
abbrev pub invariant-loop-i : goal.invariant-loop-i
invariant-loop-i l = record {
  sorted : IsTagSorted l.runs → IsJoining l.runs l.i l.out.items l.current;
  in_turn : AreInTurn l.runs → IsJoiningInTurn l.runs l.i l.out.items l.current;
}
