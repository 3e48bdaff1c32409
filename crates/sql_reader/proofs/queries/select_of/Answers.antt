use Rattle.sql_reader.proofs.queries.select_of.Goals as goal
use Rattle.sql_reader.proofs.queries.select_of.Goals.{in-All, in-Columns, in-Aggregates}

-- what is shown stays, and its lock is the one that is given
pub returns : goal.returns
returns c =
    elim c.match-items.branch [
      | in-All w ↦ rw (w.items-is, w.in-All.is)
      | in-Columns w ↦ rw (w.items-is, w.in-Columns.is)
      | in-Aggregates w ↦ rw (w.items-is, w.in-Aggregates.is)
    ]
