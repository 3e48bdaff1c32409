use Rattle.std.proofs.Common.{◌≡◌, take}
use Rattle.marked_rows.specs.Kept.{ended_in}
use Rattle.marked_rows.proofs.ending.end.Given as goal

abbrev pub invariant-loop-place : goal.invariant-loop-place
invariant-loop-place l = l.cells ≡ record l.initial.cells { list = ended_in l.session l.ending (take l.place l.written) l.initial.cells.list }
