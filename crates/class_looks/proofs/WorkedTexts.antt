-- Texts that are looks, and texts that are none, by hand.
use Rattle.std.proofs.Common.{◌≡◌, refl, false, List, [], ◌∷◌, Some, None, Ok, Err, codes, map}
use Rattle.sql_grammar.specs.Lexing.{piece_of}
use Rattle.sql_grammar.specs.Reading.{condition, other_form, form}
use Rattle.sql_grammar.specs.Text.{next_statement}
use Rattle.sql_grammar.specs.declared.error.SqlErrorKind.TheVariants.{Syntax}
use Rattle.bound_statements.specs.declared.condition.Condition.TheVariants.{Always}
use Rattle.bound_statements.specs.declared.statement.Aggregate.TheVariants.{Sum}
use Rattle.bound_statements.specs.declared.statement.Level.TheVariants.{Serializable}
use Rattle.bound_statements.specs.declared.statement.Output.TheVariants.{Columns, Aggregates}
use Rattle.bound_statements.specs.declared.statement.RowLock.{RowLock}
use Rattle.bound_statements.specs.declared.statement.Bound.TheVariants.{Select}
use Rattle.binding_model.specs.declared.error.BindErrorKind.TheVariants.{UnknownTable}
use Rattle.binding_model.specs.declared.tables.ColumnType.TheVariants.{Number}
use Rattle.binding_model.specs.declared.tables.Table.{Table}
use Rattle.machine_model.proofs.Worked.{number, id_is}
use Rattle.class_looks.specs.declared.fault.LookFault.TheVariants.{Sql, NotOneSelect, Binding}
use Rattle.class_looks.specs.Reading.{look_of}

-- CREATE TABLE t (id INT PRIMARY KEY, v INT); CREATE TABLE u (n INT)
abbrev tables : List Table
tables =
    record {
      name = codes "t";
      columns = record { name = codes "id"; kind = Number } ∷ record { name = codes "v"; kind = Number } ∷ [];
      key = Some (codes "id");
    }
    ∷ record { name = codes "u"; columns = record { name = codes "n"; kind = Number } ∷ []; key = None } ∷ []

-- a look takes no lock, and is bound as it is written
abbrev plain : RowLock
plain = record { exclusive = false; nowait = false; level = Some Serializable }

by_key : look_of tables (codes "SELECT v FROM t WHERE id = 2") ≡ Ok (Select 0 (Some (number 2)) (id_is 2) [] (Columns (1 ∷ [])) plain)
unfolding piece_of condition other_form form next_statement
by_key = refl

-- an empty statement behind it is none
keyless : look_of tables (codes " select sum(n) from u;; ") ≡ Ok (Select 1 None Always [] (Aggregates (Sum 0 ∷ [])) plain)
unfolding piece_of condition other_form form next_statement
keyless = refl

others : map (look_of tables) (codes "select v from t; select v from t" ∷ codes "" ∷ codes "commit" ∷ []) ≡ Err NotOneSelect ∷ Err NotOneSelect ∷ Err NotOneSelect ∷ []
unfolding piece_of condition other_form form next_statement
others = refl

-- the SQL is read whole before it is seen that there are two statements, and that they are no SELECT
faults : map (look_of tables) (codes "commit; select from t" ∷ codes "  select n from w" ∷ [])
    ≡ Err (Sql (record { kind = Syntax; offset = 15 })) ∷ Err (Binding (record { kind = UnknownTable; offset = 2 })) ∷ []
unfolding piece_of condition other_form form next_statement
faults = refl
