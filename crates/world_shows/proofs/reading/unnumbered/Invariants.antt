use Rattle.std.proofs.Common.{◌≡◌, ◌++◌, map}
use Rattle.row_tables.specs.Layers.{rows_of}
use Rattle.world_shows.specs.Parts.{at_zero}
use Rattle.world_shows.proofs.reading.unnumbered.Given as goal

abbrev pub invariant-loop-key : goal.invariant-loop-key
invariant-loop-key l = l.rows.items ++ map at_zero l._key-iterator ≡ map at_zero (rows_of l.table l.world.world.rows)
