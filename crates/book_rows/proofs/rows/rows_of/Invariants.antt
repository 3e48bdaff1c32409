use Rattle.book_rows.specs.Parts.{AreRowsTo}
use Rattle.book_rows.proofs.rows.rows_of.Given as goal

abbrev pub invariant-loop-place : goal.invariant-loop-place
invariant-loop-place l = AreRowsTo l.spec.run l.told l.place l.rows.items
