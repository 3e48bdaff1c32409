use Rattle.std.proofs.Common.{◌≡◌, ◌++◌}
use Rattle.row_tables.proofs.undo.UndoListsFork.fork.Given as goal

-- the lists copied so far, and then those that are left
abbrev pub invariant-loop-session : goal.invariant-loop-session
invariant-loop-session l = l.lists.entries ++ l.session-iterator ≡ l.self-inside.lists.entries
