use Rattle.marked_rows.specs.Shown.{AreUnseen, numbers_of}
use Rattle.marked_rows.proofs.scan.next_shown.Given as goal

abbrev pub invariant-loop-place : goal.invariant-loop-place
invariant-loop-place l = AreUnseen (numbers_of l.sight l.cells l.keys) l.fn.from l.place
