use Rattle.std.proofs.Common.{drop}
use Rattle.row_tables.specs.Layers.{sight}
use Rattle.statement_execution.proofs.PlaceLemmas.{Placing}
use Rattle.statement_execution.proofs.insert.placed.Given as goal

abbrev pub invariant-loop-row : goal.invariant-loop-row
invariant-loop-row g l = Placing l.table l.key_column (sight l.session (g.S.Sight.layers l.rows)) l.new (drop l.row-index l.new) l.writes l.keys
