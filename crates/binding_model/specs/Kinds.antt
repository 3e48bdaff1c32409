-- Which faults a statement has, each by itself, and which of them is the least.
use Rattle.std.specs.Prelude.{◌≡◌, ℕ, ◌<◌, Bool, true, false, not, ◌||◌, nat_lt, nat_le, is_some, List, [], ◌∷◌, ◌++◌, length, map, get_or, Option, Some}
use Rattle.std.specs.Prelude.{None, Ok, Err}
use Rattle.std.specs.List.{list_any}
use Rattle.sql_grammar.specs.Tree as tree
use Rattle.sql_grammar.specs.Tree.{Chain}
use Rattle.sql_grammar.specs.declared.error.SqlErrorKind.TheVariants as sql
use Rattle.sql_grammar.specs.declared.expression.AddSign.{AddSign}
use Rattle.sql_grammar.specs.declared.expression.Factor.{Factor}
use Rattle.sql_grammar.specs.declared.expression.Factor.TheVariants as factor
use Rattle.sql_grammar.specs.declared.expression.Literal.{Literal}
use Rattle.sql_grammar.specs.declared.statement.Aggregate.{Aggregate}
use Rattle.sql_grammar.specs.declared.statement.Aggregate.TheVariants.{Count, Total}
use Rattle.sql_grammar.specs.declared.statement.SortKey.{SortKey}
use Rattle.sql_grammar.specs.declared.statement.TablePart.{TablePart}
use Rattle.binding_model.specs.declared.TheConstants.{MAX_COLUMNS, MAX_TABLES}
use Rattle.binding_model.specs.declared.error.BindErrorKind.{BindErrorKind}
use Rattle.binding_model.specs.declared.error.BindErrorKind.TheVariants.{Sql, UnknownTable, UnknownColumn, TypeMismatch, KeyChanged, DuplicateTable, WrongCount}
use Rattle.binding_model.specs.declared.error.BindErrorKind.TheVariants.{Shape, NoMemory}
use Rattle.binding_model.specs.declared.tables.Table.{Table}
use Rattle.binding_model.specs.Names.{Name, list_of, head, tail, repeats}
use Rattle.binding_model.specs.Refusals.{Bind, ◌>>=◌, each, bind_number_of}
use Rattle.binding_model.specs.Statements.{row_columns, row_values, rows_miscount, output, sort_keys, assignment, set_columns, sets_key}
use Rattle.binding_model.specs.Tables.{table_number, table_place, column_number, key_column, no_table, joined, part_columns, part_keys, has_unknown, repeated}
use Rattle.binding_model.specs.Translation.{where_of, sum_head, sum_tail}
use Rattle.binding_model.specs.Types.{condition_mixes, assignment_mixes, output_mixes, row_mixes}

-- ---- the faults of a statement, and their kinds

-- for each kind whether a statement has a fault of it
pub record Faults : Type 0 where
  pub not_here : Bool
  pub too_large : Bool
  pub unknown_table : Bool
  pub unknown_column : Bool
  pub mixes : Bool
  pub changes_key : Bool
  pub duplicate : Bool
  pub miscounts : Bool

abbrev pub has : Faults → BindErrorKind → Bool
has f (Sql sql.NotHere) = f.not_here
has f (Sql sql.TooLarge) = f.too_large
has f (Sql k) = false
has f UnknownTable = f.unknown_table
has f UnknownColumn = f.unknown_column
has f TypeMismatch = f.mixes
has f KeyChanged = f.changes_key
has f DuplicateTable = f.duplicate
has f WrongCount = f.miscounts
has f Shape = false
has f NoMemory = false

-- there is a fault of the kind, and none of a kind with a smaller number
abbrev pub IsLeast : Faults → BindErrorKind → Type 0
IsLeast f kind = (has f kind ≡ true) × ((k : BindErrorKind) → bind_number_of k < bind_number_of kind → has f k ≡ false)

-- ---- the columns that are named

abbrev pub factor_names : Factor → List Name
factor_names (factor.Value l) = []
factor_names (factor.Column n) = n ∷ []

abbrev pub term_names : tree.Term → List Name
term_names t = factor_names (head t) ++ joined factor_names (tail t)

abbrev pub sum_names : tree.Sum → List Name
sum_names s = term_names (sum_head s) ++ joined (λ (x : AddSign × tree.Term). term_names x.1) (sum_tail s)

abbrev mutual
  pub condition_names : tree.Condition → List Name
  condition_names (tree.Alone p) = part_names p
  condition_names (tree.Or p more) = part_names p ++ condition_names more

  pub part_names : tree.Part → List Name
  part_names (tree.Single a) = atom_names a
  part_names (tree.And a more) = atom_names a ++ part_names more

  pub atom_names : tree.Atom → List Name
  atom_names (tree.Compares a s b) = sum_names a ++ sum_names b
  atom_names (tree.Not a) = atom_names a
  atom_names (tree.Group more) = condition_names more

abbrev pub where_names : Option tree.Condition → List Name
where_names None = []
where_names (Some c) = condition_names c

abbrev pub aggregate_names : Aggregate → List Name
aggregate_names Count = []
aggregate_names (Total n) = n ∷ []

abbrev pub item_names : tree.Items → List Name
item_names tree.AllColumns = []
item_names (tree.Columns names) = list_of names
item_names (tree.Aggregates as') = joined aggregate_names (list_of as')

abbrev pub order_names : Option (Chain SortKey) → List Name
order_names None = []
order_names (Some ks) = map (λ (k : SortKey). k.column) (list_of ks)

abbrev pub assignment_names : tree.Assignment → List Name
assignment_names a = a.column ∷ sum_names a.value

abbrev pub row_names : Option (Chain Name) → List Name
row_names None = []
row_names (Some names) = list_of names

-- ---- which faults there are

-- a name of no column
abbrev pub names_unknown : Table → List Name → Bool
names_unknown t names = list_any (λ n. not (is_some (column_number t n))) names

-- what two parts say over numbers, where both say something
abbrev pub both : {A B : Type 0} → Bind A → Bind B → Bind (A × B)
both r s = r >>= λ a. (s >>= λ b. Ok (a, b))

-- the test of what is said, where something is
abbrev pub if_said : {A : Type 0} → Bind A → (A → Bool) → Bool
if_said (Ok x) test = test x
if_said (Err e) test = false

-- in a known table: the names, and what is said over numbers, with the tests of its types, of its key and of its counts
abbrev pub faults_by : {A : Type 0} → Table → List Name → Bind A → (A → Bool) → (A → Bool) → (A → Bool) → Faults
faults_by t names said mixes key counts = record {
  not_here = false;
  too_large = false;
  unknown_table = false;
  unknown_column = names_unknown t names;
  mixes = if_said said mixes;
  changes_key = if_said said key;
  duplicate = false;
  miscounts = if_said said counts;
}

abbrev pub never : {A : Type 0} → A → Bool
never x = false

abbrev pub insert_faults : ℕ → Option (Chain Name) → Chain (Chain Literal) → Table → Faults
insert_faults at names rows t =
    faults_by t (row_names names) (both (row_columns t at names) (each (row_values at) (list_of rows)))
    (λ x. list_any (row_mixes t x.0) x.1) never (λ x. rows_miscount t x.0 x.1)

abbrev pub select_faults : ℕ → tree.Select → Table → Faults
select_faults at s t =
    faults_by t (item_names s.items ++ (order_names s.order ++ where_names s.where'))
    (both (output t at s.items) (both (sort_keys t at s.order) (where_of t at s.where')))
    (λ x. output_mixes t x.0 || condition_mixes t x.1.1) never never

abbrev pub update_faults : ℕ → Chain tree.Assignment → Option tree.Condition → Table → Faults
update_faults at as' c t =
    faults_by t (joined assignment_names (list_of as') ++ where_names c) (both (each (assignment t at) (list_of as')) (where_of t at c))
    (λ x. list_any (assignment_mixes t) x.0 || condition_mixes t x.1) (λ x. sets_key (key_column t) x.0) (λ x. repeats [] (set_columns x.0))

abbrev pub delete_faults : ℕ → Option tree.Condition → Table → Faults
delete_faults at c t = faults_by t (where_names c) (where_of t at c) (condition_mixes t) never never

abbrev pub no_faults : Faults
no_faults = record {
  not_here = false;
  too_large = false;
  unknown_table = false;
  unknown_column = false;
  mixes = false;
  changes_key = false;
  duplicate = false;
  miscounts = false;
}

-- an unknown table hides those below it
abbrev pub in_table : List Table → Option ℕ → (Table → Faults) → Faults
in_table tables None faults = record no_faults { unknown_table = true }
in_table tables (Some i) faults = faults (get_or tables i no_table)

-- of a statement that stands outside the main setups or is no declaration
abbrev pub statement_faults : List Table → ℕ → tree.Statement → Faults
statement_faults tables at (tree.CreateTable n ps) = record no_faults { not_here = true }
statement_faults tables at (tree.Insert n names rows) = in_table tables (table_number tables n) (insert_faults at names rows)
statement_faults tables at (tree.Selects s) = in_table tables (table_number tables s.table) (select_faults at s)
statement_faults tables at (tree.Update n as' c) = in_table tables (table_number tables n) (update_faults at as' c)
statement_faults tables at (tree.Delete n c) = in_table tables (table_number tables n) (delete_faults at c)
statement_faults tables at (tree.Begin start level) = no_faults
statement_faults tables at (tree.Ends word noise) = no_faults
statement_faults tables at (tree.Lock word n mode nowait) = in_table tables (table_number tables n) (λ t. no_faults)
statement_faults tables at (tree.Set setting) = no_faults

-- of a table that a main setup declares
abbrev pub declaration_faults : List Table → Name → Chain TablePart → Faults
declaration_faults tables name parts =
    let columns = joined part_columns (list_of parts) in
    let keys = joined part_keys (list_of parts) in
    record {
      not_here = false;
      too_large = nat_lt MAX_COLUMNS (length columns) || nat_le MAX_TABLES (length tables);
      unknown_table = false;
      unknown_column = has_unknown columns keys;
      mixes = false;
      changes_key = false;
      duplicate = is_some (table_place tables name);
      miscounts = repeated [] columns || nat_lt 1 (length keys);
    }
