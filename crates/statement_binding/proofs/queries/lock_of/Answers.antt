use Rattle.statement_binding.proofs.queries.lock_of.Goals as goal

-- the lock that is written is the one that is bound
pub returns-in-All : goal.returns-in-All
returns-in-All c = rw (c.in-All.is, c.written_lock_of.ensures)

pub returns-in-Columns : goal.returns-in-Columns
returns-in-Columns c = rw (c.in-Columns.is, c.written_lock_of-in-Columns.ensures)
