-- Worked statements: what they bind to, what they ask, and why they are refused.
use Rattle.std.proofs.Common.{◌≡◌, refl, ℕ, false, List, [], ◌∷◌, Option, Some, None, Ok, pos}
use Rattle.std.specs.Prelude.{codes}
use Rattle.lock_modes.specs.declared.mode.Mode.TheVariants.{IntentShare, IntentExclusive, Share, Exclusive}
use Rattle.lock_modes.specs.declared.resource.Resource.TheVariants.{Table as OfTable, Row}
use Rattle.lock_modes.specs.declared.value.Value.TheVariants.{Int}
use Rattle.sql_grammar.specs.Tree as tree
use Rattle.sql_grammar.specs.Tree.{Last, More, Only, Alone, Or, Single, And, Compares, Group}
use Rattle.sql_grammar.specs.declared.error.SqlErrorKind.TheVariants.{NotHere}
use Rattle.sql_grammar.specs.declared.expression.Comparison.TheVariants.{Equal, Greater}
use Rattle.sql_grammar.specs.declared.expression.Factor.TheVariants.{Value, Column}
use Rattle.sql_grammar.specs.declared.expression.Literal.TheVariants.{Whole}
use Rattle.sql_grammar.specs.declared.statement.EndWord.TheVariants.{Abort}
use Rattle.sql_grammar.specs.declared.statement.Start.TheVariants.{StartWords}
use Rattle.sql_grammar.specs.declared.statement.TablePart.TheVariants.{Key}
use Rattle.sql_grammar.specs.declared.statement.Level.TheVariants.{Read}
use Rattle.sql_grammar.specs.declared.statement.LockedFor.TheVariants.{Share as OfShare}
use Rattle.sql_grammar.specs.declared.statement.ReadWord.TheVariants.{Uncommitted}
use Rattle.sql_grammar.specs.declared.statement.RowLock.{RowLock}
use Rattle.bound_statements.specs.Levels.{asked, levelled}
use Rattle.bound_statements.specs.Plan.{Request, request, plan}
use Rattle.bound_statements.specs.declared.statement.Bound.TheVariants.{Begin, Rollback}
use Rattle.bound_statements.specs.declared.statement.Level.TheVariants.{Committed}
use Rattle.binding_model.specs.declared.error.BindErrorKind.TheVariants.{Sql, UnknownTable, UnknownColumn, KeyChanged, WrongCount}
use Rattle.binding_model.specs.declared.tables.ColumnType.TheVariants.{Number}
use Rattle.binding_model.specs.declared.tables.Table.{Table}
use Rattle.binding_model.specs.Refusals.{Bind, ◌>>=◌, refuse}
use Rattle.binding_model.specs.Statements.{statement}

-- CREATE TABLE t (id int PRIMARY KEY, v int)
tables : List Table
tables = record {
  name = codes "t";
  columns = record { name = codes "id"; kind = Number } ∷ record { name = codes "v"; kind = Number } ∷ [];
  key =
      Some (codes "id");
} ∷ []

column : List ℕ → tree.Sum
column name = Only (Last (Column name))

number : ℕ → tree.Sum
number n = Only (Last (Value (Whole false n)))

one : tree.Atom → tree.Condition
one a = Alone (Single a)

select : tree.Items → List ℕ → Option tree.Condition → tree.Statement
select items name c = tree.Selects (record { items = items; table = name; where' = c; order = None; lock = tree.lock_for items None })

plan_of : tree.Statement → Bind (List Request)
plan_of s = statement tables 7 s >>= λ b. Ok (plan b)

-- what it asks for where it is at READ COMMITTED
asked_of : tree.Statement → Bind (List Request)
asked_of s = statement tables 7 s >>= λ b. Ok (asked (levelled (Some Committed) b))

abbrev for_share : RowLock
for_share = record { locked_for = OfShare; nowait = false }

abbrev id_is_two : tree.Atom
id_is_two = Compares (column (codes "id")) Equal (number 2)

abbrev v_is_positive : tree.Atom
v_is_positive = Compares (column (codes "v")) Greater (number 0)

abbrev row_two : Bind (List Request)
row_two = Ok (request (OfTable 0) IntentShare ∷ request (Row 0 (Int (pos 2))) Share ∷ [])

abbrev whole_table : Bind (List Request)
whole_table = Ok (request (OfTable 0) Share ∷ [])

-- a step's CREATE TABLE
not_here : statement tables 7 (tree.CreateTable (codes "x") (Last (Key (codes "i")))) ≡ refuse 7 (Sql NotHere)
not_here = refl

-- SELECT w FROM t
no_column : statement tables 7 (select (tree.Columns (Last (codes "w"))) (codes "t") None) ≡ refuse 7 UnknownColumn
unfolding tables select
no_column = refl

-- SELECT w FROM u
no_table : statement tables 7 (select (tree.Columns (Last (codes "w"))) (codes "u") None) ≡ refuse 7 UnknownTable
unfolding tables select
no_table = refl

-- UPDATE t SET id = 1
key_changed : statement tables 7 (tree.Update (codes "t") (Last (record { column = codes "id"; value = number 1 })) None) ≡ refuse 7 KeyChanged
unfolding tables number
key_changed = refl

-- INSERT INTO t VALUES (1)
wrong_count : statement tables 7 (tree.Insert (codes "t") None (Last (Last (Whole false 1)))) ≡ refuse 7 WrongCount
unfolding tables
wrong_count = refl

-- SELECT * FROM t WHERE (v > 0) AND id = 2
key_behind_parentheses : plan_of (select tree.AllColumns (codes "t") (Some (Alone (And (Group (one v_is_positive)) (Single id_is_two))))) ≡ row_two
unfolding tables select plan_of column number one
key_behind_parentheses = refl

-- SELECT * FROM t WHERE 2 = id
turned_around : plan_of (select tree.AllColumns (codes "t") (Some (one (Compares (number 2) Equal (column (codes "id")))))) ≡ whole_table
unfolding tables select plan_of column number one
turned_around = refl

-- SELECT * FROM t WHERE id = 2 OR v > 0
one_of_two : plan_of (select tree.AllColumns (codes "t") (Some (Or (Single id_is_two) (one v_is_positive)))) ≡ whole_table
unfolding tables select plan_of column number one
one_of_two = refl

-- INSERT INTO t VALUES (5, 0), (4, 0)
keys_in_order : plan_of (tree.Insert (codes "t") None (More (More (Whole false 5) (Last (Whole false 0))) (Last (More (Whole false 4) (Last (Whole false 0))))))
    ≡ Ok (request (OfTable 0) IntentExclusive ∷ request (Row 0 (Int (pos 5))) Exclusive ∷ request (Row 0 (Int (pos 4))) Exclusive ∷ [])
unfolding tables plan_of
keys_in_order = refl

-- START TRANSACTION
begins : statement tables 7 (tree.Begin StartWords None) ≡ Ok (Begin None)
begins = refl

-- START TRANSACTION ISOLATION LEVEL READ UNCOMMITTED
begins_at : statement tables 7 (tree.Begin StartWords (Some (Read Uncommitted))) ≡ Ok (Begin (Some Committed))
begins_at = refl

-- SELECT * FROM t at READ COMMITTED, and the same FOR SHARE
plain : asked_of (tree.Selects (record { items = tree.AllColumns; table = codes "t"; where' = None; order = None; lock = None })) ≡ Ok []
unfolding tables asked_of
plain = refl

shared : asked_of (tree.Selects (record { items = tree.AllColumns; table = codes "t"; where' = None; order = None; lock = Some for_share })) ≡ whole_table
unfolding tables asked_of
shared = refl

-- ABORT
aborts : statement tables 7 (tree.Ends Abort None) ≡ Ok Rollback
aborts = refl
