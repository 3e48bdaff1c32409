use Rattle.std.proofs.Common.{◌≡◌, take}
use Rattle.marked_modes.specs.Kept.{cleared}
use Rattle.marked_modes.proofs.clearing.clear.Given as goal

abbrev pub invariant-loop-place : goal.invariant-loop-place
invariant-loop-place l = l.rows ≡ record l.initial.rows { list = cleared l.session (take l.place l.given) l.initial.rows.list }
