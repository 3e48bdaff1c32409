use Rattle.std.proofs.Common.{◌≡◌, ◌+◌, ◌-◌, length, map}
use Rattle.std.specs.Vec.{vec_items}
use Rattle.marked_rows.specs.Places.{AllRise, placed_from}
use Rattle.marked_rows.proofs.places.reach.Given as goal

abbrev pub invariant-loop-alloc : goal.invariant-loop-alloc
invariant-loop-alloc l =
    AllRise (map vec_items l.tables.items) × (placed_from 0 (map vec_items l.tables.items) ≡ placed_from 0 (map vec_items l.initial.tables.items))

abbrev pub decreases-loop-alloc : goal.decreases-loop-alloc
decreases-loop-alloc l = l.table + 1 - length l.tables.items
