-- The parts of a SELECT that follow its items and its table.
use Rattle.std.specs.Prelude.{List, Option, Ok, codes}
use Rattle.sql_grammar.specs.Tokens.{Key, Placed}
use Rattle.sql_grammar.specs.declared.statement.SortKey.{SortKey}
use Rattle.sql_grammar.specs.declared.statement.RowLock.{RowLock}
use Rattle.sql_grammar.specs.Tree.{Name, Chain, Condition, Items, lock_for, Statement, Selects}
use Rattle.sql_grammar.specs.Reading.{Read, ◌>>=◌, skip, name, optional, where_part, order_part, lock_part}

-- a SELECT of these parts
abbrev pub select_of : Items → Name → Option Condition → Option (Chain SortKey) → Option RowLock → Statement
select_of is' n w o l = Selects (record { items = is'; table = n; where' = w; order = o; lock = lock_for is' l })

-- what follows the table
abbrev pub select_by : Items → Name → List Placed → Read Statement
select_by is' n ts = do
  w ← optional (Key (codes "where")) where_part ts
  o ← optional (Key (codes "order")) order_part w.1
  l ← lock_part is' o.1
  Ok (select_of is' n w.0 o.0 l.0, l.1)

-- what follows the items
abbrev pub select_from : Items → List Placed → Read Statement
select_from is' ts = do
  f ← skip (Key (codes "from")) ts
  n ← name f.1
  select_by is' n.0 n.1
