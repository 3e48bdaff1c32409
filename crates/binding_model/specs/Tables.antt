-- Declared tables.
use Rattle.std.specs.Prelude.{ℕ, ◌||◌, not, nat_lt, nat_le, min, Bool, false, List, [], ◌∷◌, ◌++◌, length, get_or, Option, Some, None, bytes_eq, Ok, is_some, if◌then◌else◌}
use Rattle.std.specs.List.{list_any, position_from}
use Rattle.sql_grammar.specs.Tree.{Chain}
use Rattle.sql_grammar.specs.declared.statement.TypeWord.{TypeWord}
use Rattle.sql_grammar.specs.declared.statement.Property.{Property}
use Rattle.sql_grammar.specs.declared.statement.Property.TheVariants.{PrimaryKey, NotNull}
use Rattle.sql_grammar.specs.declared.statement.TablePart.{TablePart}
use Rattle.sql_grammar.specs.declared.statement.TablePart.TheVariants as part
use Rattle.sql_grammar.specs.declared.statement.TypeWord.TheVariants as word
use Rattle.sql_grammar.specs.declared.error.SqlErrorKind.TheVariants.{TooLarge}
use Rattle.binding_model.specs.declared.TheConstants.{MAX_COLUMNS, MAX_TABLES}
use Rattle.binding_model.specs.declared.error.BindErrorKind.{BindErrorKind}
use Rattle.binding_model.specs.declared.error.BindErrorKind.TheVariants.{Sql, UnknownTable, UnknownColumn, DuplicateTable, WrongCount}
use Rattle.binding_model.specs.declared.tables.ColumnType.{ColumnType}
use Rattle.binding_model.specs.declared.tables.ColumnType.TheVariants.{Number, Text}
use Rattle.binding_model.specs.declared.tables.Column.{Column}
use Rattle.binding_model.specs.declared.tables.Table.{Table}
use Rattle.binding_model.specs.Names.{Name, list_of}
use Rattle.binding_model.specs.Refusals.{Bind, refuse}

-- a place that is below a limit
abbrev pub below : ℕ → Option ℕ → Option ℕ
below limit None = None
below limit (Some n) = if nat_lt n limit then Some n else None

-- where the table of this name stands, in the order of their declarations
abbrev pub table_place : List Table → Name → Option ℕ
table_place tables name = position_from (λ (t : Table). bytes_eq name t.name) 0 tables

abbrev pub table_number : List Table → Name → Option ℕ
table_number tables name = below MAX_TABLES (table_place tables name)

-- where the column of this name stands
abbrev pub column_place : List Column → Name → Option ℕ
column_place columns name = position_from (λ (c : Column). bytes_eq name c.name) 0 columns

abbrev pub column_number : Table → Name → Option ℕ
column_number t name = below MAX_COLUMNS (column_place t.columns name)

-- which column is the primary key
abbrev pub key_column : Table → Option ℕ
key_column t = elim t.key [ None ↦ None | Some name ↦ column_number t name ]

-- how many columns have a number
abbrev pub width : Table → ℕ
width t = min (length t.columns) MAX_COLUMNS

abbrev pub no_table : Table
no_table = record { name = []; columns = []; key = None }

abbrev pub no_column : Column
no_column = record { name = []; kind = Number }

abbrev pub type_of : Table → ℕ → ColumnType
type_of t c = (get_or t.columns c no_column).kind

-- ---- what a CREATE TABLE declares

abbrev pub type_of_word : TypeWord → ColumnType
type_of_word word.Int = Number
type_of_word word.Integer = Number
type_of_word word.Int4 = Number
type_of_word word.BigInt = Number
type_of_word word.Int8 = Number
type_of_word word.Text = Text

-- the column's name for each PRIMARY KEY that stands behind it
abbrev pub keys_of : Name → List Property → List Name
keys_of n [] = []
keys_of n (PrimaryKey ∷ ps) = n ∷ keys_of n ps
keys_of n (NotNull ∷ ps) = keys_of n ps

abbrev pub part_keys : TablePart → List Name
part_keys (part.Column n w ps) = keys_of n ps
part_keys (part.Key n) = n ∷ []

abbrev pub part_columns : TablePart → List Column
part_columns (part.Column n w ps) = record { name = n; kind = type_of_word w } ∷ []
part_columns (part.Key n) = []

abbrev pub joined : {A B : Type 0} → (A → List B) → List A → List B
joined f [] = []
joined f (x ∷ xs) = f x ++ joined f xs

abbrev pub first_of : {A : Type 0} → List A → Option A
first_of [] = None
first_of (x ∷ xs) = Some x

-- the keys are named, each of them by a column
abbrev pub declared : Name → List Column → List Name → Table
declared name columns keys = record { name = name; columns = columns; key = first_of keys }

-- some name stands twice, or is that of a column before
abbrev pub repeated : List Column → List Column → Bool
repeated before [] = false
repeated before (c ∷ cs) = list_any (λ (b : Column). bytes_eq c.name b.name) before || repeated (before ++ c ∷ []) cs

-- a key of no column
abbrev pub has_unknown : List Column → List Name → Bool
has_unknown columns keys = list_any (λ key. not (is_some (column_place columns key))) keys

-- there are as many columns and tables as have numbers, at most: a spec file has no room for so many
abbrev pub refusal : List Table → Name → List Column → List Name → Option BindErrorKind
refusal tables name columns keys =
    if nat_lt MAX_COLUMNS (length columns) || nat_le MAX_TABLES (length tables) then Some (Sql TooLarge)
    else (if has_unknown columns keys then Some UnknownColumn
    else (if is_some (table_place tables name) then Some DuplicateTable
    else (if repeated [] columns || nat_lt 1 (length keys) then Some WrongCount
    else None)))

-- the tables with one more
abbrev pub create_with : List Table → ℕ → Name → List Column → List Name → Bind (List Table)
create_with tables at name columns keys =
    elim (refusal tables name columns keys) [ Some kind ↦ refuse at kind | None ↦ Ok (tables ++ declared name columns keys ∷ []) ]

abbrev pub create : List Table → ℕ → Name → Chain TablePart → Bind (List Table)
create tables at name parts = create_with tables at name (joined part_columns (list_of parts)) (joined part_keys (list_of parts))

-- ---- names in statements

abbrev pub column : Table → ℕ → Name → Bind ℕ
column t at name = elim (column_number t name) [ None ↦ refuse at UnknownColumn | Some c ↦ Ok c ]

-- the number of the table of this name, and the table
abbrev pub table : List Table → ℕ → Name → Bind (ℕ × Table)
table tables at name = elim (table_number tables name) [ None ↦ refuse at UnknownTable | Some t ↦ Ok (t, get_or tables t no_table) ]
