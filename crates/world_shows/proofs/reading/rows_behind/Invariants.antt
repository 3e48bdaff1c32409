use Rattle.std.proofs.Common.{◌≡◌, ◌++◌}
use Rattle.row_tables.specs.Layers.{rows_of}
use Rattle.world_shows.proofs.reading.rows_behind.Given as goal

abbrev pub invariant-loop-key : goal.invariant-loop-key
invariant-loop-key l = l.rows.items ++ l.key-iterator ≡ rows_of l.table l.world.world.rows
