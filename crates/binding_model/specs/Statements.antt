-- What a statement binds to, or its first refusal, which is the one with the least number.
use Rattle.std.specs.Prelude.{ℕ, zero, suc, Bool, true, false, not, ◌||◌, ◌==◌, nat_eq, List, [], ◌∷◌, length, get_or, map, Option, Some, None, Ok, pos}
use Rattle.std.specs.List.{list_any, position_from}
use Rattle.lock_modes.specs.declared.mode.Mode.{Mode}
use Rattle.lock_modes.specs.declared.mode.Mode.TheVariants as modes
use Rattle.lock_modes.specs.declared.value.Value.{Value}
use Rattle.lock_modes.specs.declared.value.Value.TheVariants.{Int}
use Rattle.sql_grammar.specs.Tree as tree
use Rattle.sql_grammar.specs.Tree.{Chain}
use Rattle.sql_grammar.specs.declared.expression.Literal.{Literal}
use Rattle.sql_grammar.specs.declared.statement.Aggregate.{Aggregate as Aggregated}
use Rattle.sql_grammar.specs.declared.statement.Aggregate.TheVariants as aggregated
use Rattle.sql_grammar.specs.declared.statement.Direction.{Direction}
use Rattle.sql_grammar.specs.declared.statement.Direction.TheVariants.{Ascending, Descending}
use Rattle.sql_grammar.specs.declared.statement.EndWord.{EndWord}
use Rattle.sql_grammar.specs.declared.statement.EndWord.TheVariants as word
use Rattle.sql_grammar.specs.declared.statement.Level.{Level as WrittenLevel}
use Rattle.sql_grammar.specs.declared.statement.Level.TheVariants as written
use Rattle.sql_grammar.specs.declared.statement.LockMode.{LockMode}
use Rattle.sql_grammar.specs.declared.statement.LockMode.TheVariants.{Access, RowLevel, Shared, Exclusively}
use Rattle.sql_grammar.specs.declared.statement.LockedFor.{LockedFor}
use Rattle.sql_grammar.specs.declared.statement.LockedFor.TheVariants as purpose
use Rattle.sql_grammar.specs.declared.statement.RowLock.{RowLock as WrittenLock}
use Rattle.sql_grammar.specs.declared.statement.SortKey.{SortKey as Sorted}
use Rattle.sql_grammar.specs.declared.statement.Strength.TheVariants.{Share, Exclusive}
use Rattle.sql_grammar.specs.declared.error.SqlErrorKind.TheVariants.{NotHere}
use Rattle.bound_statements.specs.declared.statement.Aggregate.{Aggregate}
use Rattle.bound_statements.specs.declared.statement.Aggregate.TheVariants as aggregates
use Rattle.bound_statements.specs.declared.statement.Assignment.{Assignment}
use Rattle.bound_statements.specs.declared.statement.Bound.{Bound}
use Rattle.bound_statements.specs.declared.statement.Bound.TheVariants.{Select, Insert, Update, Delete, Begin, Commit, Rollback, Lock, SetVariable}
use Rattle.bound_statements.specs.declared.condition.Condition.{Condition}
use Rattle.bound_statements.specs.declared.statement.Order.{Order}
use Rattle.bound_statements.specs.declared.statement.Order.TheVariants.{Rises, Falls}
use Rattle.bound_statements.specs.declared.statement.Output.{Output}
use Rattle.bound_statements.specs.declared.statement.Output.TheVariants.{Columns, Aggregates}
use Rattle.bound_statements.specs.declared.statement.Level.{Level}
use Rattle.bound_statements.specs.declared.statement.Level.TheVariants.{Serializable, Committed}
use Rattle.bound_statements.specs.declared.statement.RowLock.{RowLock}
use Rattle.bound_statements.specs.declared.statement.SortKey.{SortKey}
use Rattle.binding_model.specs.declared.error.BindErrorKind.TheVariants.{Sql, TypeMismatch, KeyChanged, WrongCount}
use Rattle.binding_model.specs.declared.tables.Table.{Table}
use Rattle.binding_model.specs.KeyParts.{key_of}
use Rattle.binding_model.specs.Names.{Name, list_of, repeats}
use Rattle.binding_model.specs.Refusals.{Bind, ◌>>=◌, refuse, unless, each}
use Rattle.binding_model.specs.Tables.{key_column, width, column, table}
use Rattle.binding_model.specs.Translation.{value, expression, where_of}
use Rattle.binding_model.specs.Types.{condition_mixes, assignment_mixes, output_mixes, row_mixes}

-- ---- INSERT

-- so many numbers from one on
abbrev pub numbers_from : ℕ → ℕ → List ℕ
numbers_from k zero = []
numbers_from k (suc n) = k ∷ numbers_from (suc k) n

-- the columns of the rows, as they are written
abbrev pub row_columns : Table → ℕ → Option (Chain Name) → Bind (List ℕ)
row_columns t at None = Ok (numbers_from 0 (width t))
row_columns t at (Some names) = each (column t at) (list_of names)

abbrev pub row_values : ℕ → Chain Literal → Bind (List Value)
row_values at row = each (value at) (list_of row)

-- where a column stands among the columns of the rows
abbrev pub stands_at : List ℕ → ℕ → Option ℕ
stands_at columns c = position_from (λ d. d == c) 0 columns

abbrev pub place_of : List ℕ → ℕ → ℕ
place_of columns c = elim (stands_at columns c) [ None ↦ 0 | Some p ↦ p ]

-- for each column of the table the place of its value
abbrev pub places : Table → List ℕ → List ℕ
places t columns = map (place_of columns) (numbers_from 0 (width t))

abbrev pub value_at : List Value → ℕ → Value
value_at row p = get_or row p (Int (pos 0))

abbrev pub at_places : List ℕ → List Value → List Value
at_places ps row = map (value_at row) ps

-- not all columns, each once, or a row without a value for each
abbrev pub has_other_width : ℕ → List (List Value) → Bool
has_other_width width rows = list_any (λ (row : List Value). not (nat_eq (length row) width)) rows

abbrev pub rows_miscount : Table → List ℕ → List (List Value) → Bool
rows_miscount t columns rows =
    not (nat_eq (length columns) (width t)) || (repeats [] columns || has_other_width (width t) rows)

abbrev pub insert_rows : Table → ℕ → ℕ → List ℕ → List (List Value) → Bind Bound
insert_rows t at n columns rows =
    unless (list_any (row_mixes t columns) rows) at TypeMismatch
    (unless (rows_miscount t columns rows) at WrongCount
    (Ok (Insert n (key_column t) (map (at_places (places t columns)) rows))))

abbrev pub insert : Table → ℕ → ℕ → Option (Chain Name) → Chain (Chain Literal) → Bind Bound
insert t at n names rows =
    row_columns t at names >>= λ columns. (each (row_values at) (list_of rows) >>= λ values. insert_rows t at n columns values)

-- ---- SELECT

abbrev pub aggregate : Table → ℕ → Aggregated → Bind Aggregate
aggregate t at aggregated.Count = Ok aggregates.Count
aggregate t at (aggregated.Total name) = column t at name >>= λ c. Ok (aggregates.Sum c)

abbrev pub output : Table → ℕ → tree.Items → Bind Output
output t at tree.AllColumns = Ok (Columns (numbers_from 0 (width t)))
output t at (tree.Columns names) = each (column t at) (list_of names) >>= λ cs. Ok (Columns cs)
output t at (tree.Aggregates as') = each (aggregate t at) (list_of as') >>= λ as'. Ok (Aggregates as')

abbrev pub order_of : Option Direction → Order
order_of None = Rises
order_of (Some Ascending) = Rises
order_of (Some Descending) = Falls

abbrev pub sort_key : Table → ℕ → Sorted → Bind SortKey
sort_key t at k = column t at k.column >>= λ c. Ok (record { column = c; order = order_of k.direction })

abbrev pub sort_keys : Table → ℕ → Option (Chain Sorted) → Bind (List SortKey)
sort_keys t at None = Ok []
sort_keys t at (Some ks) = each (sort_key t at) (list_of ks)

abbrev pub is_update : LockedFor → Bool
is_update purpose.Update = true
is_update purpose.Share = false

-- FOR SHARE locks the rows as a select does that says nothing, at each level, and NOWAIT stays
abbrev pub lock_of : Option WrittenLock → RowLock
lock_of None = record { exclusive = false; nowait = false; level = Some Serializable }
lock_of (Some l) = record { exclusive = is_update l.locked_for; nowait = l.nowait; level = None }

abbrev pub select_rows : Table → ℕ → ℕ → Output → List SortKey → RowLock → Condition → Bind Bound
select_rows t at n out by lock c =
    unless (output_mixes t out || condition_mixes t c) at TypeMismatch (Ok (Select n (key_of (key_column t) c) c by out lock))

abbrev pub select : Table → ℕ → ℕ → tree.Select → Bind Bound
select t at n s =
    output t at s.items >>= λ out. (sort_keys t at s.order >>= λ by. (where_of t at s.where' >>= λ c.
    select_rows t at n out by (lock_of (tree.written_lock s.items s.lock)) c))

-- ---- UPDATE and DELETE

abbrev pub assignment : Table → ℕ → tree.Assignment → Bind Assignment
assignment t at a = column t at a.column >>= λ c. (expression t at a.value >>= λ e. Ok (record { column = c; value = e }))

-- the columns that are set
abbrev pub set_columns : List Assignment → List ℕ
set_columns sets = map (λ (a : Assignment). a.column) sets

abbrev pub sets_column : ℕ → List Assignment → Bool
sets_column column sets = list_any (λ (a : Assignment). a.column == column) sets

abbrev pub sets_key : Option ℕ → List Assignment → Bool
sets_key None sets = false
sets_key (Some key) sets = sets_column key sets

abbrev pub update_rows : Table → ℕ → ℕ → List Assignment → Condition → Bind Bound
update_rows t at n sets c =
    unless (list_any (assignment_mixes t) sets || condition_mixes t c) at TypeMismatch
    (unless (sets_key (key_column t) sets) at KeyChanged
    (unless (repeats [] (set_columns sets)) at WrongCount
    (Ok (Update n (key_of (key_column t) c) sets c))))

abbrev pub update : Table → ℕ → ℕ → Chain tree.Assignment → Option tree.Condition → Bind Bound
update t at n as' c = each (assignment t at) (list_of as') >>= λ sets. (where_of t at c >>= λ c. update_rows t at n sets c)

abbrev pub delete_rows : Table → ℕ → ℕ → Condition → Bind Bound
delete_rows t at n c = unless (condition_mixes t c) at TypeMismatch (Ok (Delete n (key_of (key_column t) c) c))

abbrev pub delete : Table → ℕ → ℕ → Option tree.Condition → Bind Bound
delete t at n c = where_of t at c >>= λ c. delete_rows t at n c

-- ---- the other forms

abbrev pub mode_of : Option LockMode → Mode
mode_of None = modes.Exclusive
mode_of (Some (Access Share)) = modes.IntentShare
mode_of (Some (Access Exclusive)) = modes.Exclusive
mode_of (Some (RowLevel Share)) = modes.IntentShare
mode_of (Some (RowLevel Exclusive)) = modes.IntentExclusive
mode_of (Some (Shared false)) = modes.Share
mode_of (Some (Shared true)) = modes.ShareIntent
mode_of (Some Exclusively) = modes.Exclusive

abbrev pub end_of : EndWord → Bound
end_of word.Commit = Commit
end_of word.End = Commit
end_of word.Rollback = Rollback
end_of word.Abort = Rollback

-- the level that a BEGIN names: READ UNCOMMITTED is READ COMMITTED, and REPEATABLE READ is SERIALIZABLE
abbrev pub level_of : Option WrittenLevel → Option Level
level_of None = None
level_of (Some written.Serializable) = Some Serializable
level_of (Some written.RepeatableRead) = Some Serializable
level_of (Some (written.Read word)) = Some Committed

-- a statement that is no declaration
abbrev pub statement : List Table → ℕ → tree.Statement → Bind Bound
statement tables at (tree.CreateTable n ps) = refuse at (Sql NotHere)
statement tables at (tree.Insert n names rows) = table tables at n >>= λ x. insert x.1 at x.0 names rows
statement tables at (tree.Selects s) = table tables at s.table >>= λ x. select x.1 at x.0 s
statement tables at (tree.Update n as' c) = table tables at n >>= λ x. update x.1 at x.0 as' c
statement tables at (tree.Delete n c) = table tables at n >>= λ x. delete x.1 at x.0 c
statement tables at (tree.Begin start level) = Ok (Begin (level_of level))
statement tables at (tree.Ends end noise) = Ok (end_of end)
statement tables at (tree.Lock noise n mode nowait) = table tables at n >>= λ x. Ok (Lock x.0 (mode_of mode) nowait)
statement tables at (tree.Set setting) = Ok SetVariable
