-- Statements that are read and have no effect, or have a part that has none.
use Rattle.std.specs.Prelude.{ℕ, Bool, true, false, not, ◌||◌, is_some, List, [], map, filter, Option, Some, None, Result, Ok, Err}
use Rattle.std.specs.List.{list_any, flat_map}
use Rattle.sql_grammar.specs.Grammar.{Fault}
use Rattle.sql_grammar.specs.Text.{StatementAt}
use Rattle.sql_grammar.specs.Tree as tree
use Rattle.sql_grammar.specs.Tree.{Chain, Last, More, Statement}
use Rattle.sql_grammar.specs.declared.statement.Level.{Level}
use Rattle.sql_grammar.specs.declared.statement.Level.TheVariants.{Serializable, RepeatableRead, Read}
use Rattle.sql_grammar.specs.declared.statement.Property.{Property}
use Rattle.sql_grammar.specs.declared.statement.Property.TheVariants.{PrimaryKey, NotNull}
use Rattle.sql_grammar.specs.declared.statement.TablePart.{TablePart}
use Rattle.sql_grammar.specs.declared.statement.TablePart.TheVariants.{Column, Key}
use Rattle.bound_statements.specs.declared.statement.Level.{Level as Asked}
use Rattle.bound_statements.specs.declared.statement.Level.TheVariants as asked
use Rattle.spec_reader.specs.Tree.{BlockTree}
use Rattle.bound_specs.specs.Binding.{offset_in, read_text}
use Rattle.file_blocks.specs.Blocks.{SentTree}
use Rattle.spec_texts.specs.declared.statements.SqlPart.{SqlPart}
use Rattle.spec_texts.specs.declared.statements.SqlPart.TheVariants as part

-- one of one or more passes the test
abbrev pub any_of : {A : Type 0} → (A → Bool) → Chain A → Bool
any_of test (Last a) = test a
any_of test (More a l) = test a || any_of test l

abbrev pub is_not_null : Property → Bool
is_not_null PrimaryKey = false
is_not_null NotNull = true

abbrev pub has_not_null : TablePart → Bool
has_not_null (Column name kind properties) = list_any is_not_null properties
has_not_null (Key name) = false

abbrev pub is_serializable : Asked → Bool
is_serializable asked.Serializable = true
is_serializable asked.Committed = false

-- whether what a BEGIN names is this level: READ UNCOMMITTED is READ COMMITTED, and REPEATABLE READ is neither
abbrev pub is_level : Asked → Level → Bool
is_level asked Serializable = is_serializable asked
is_level asked RepeatableRead = false
is_level asked (Read word) = not (is_serializable asked)

abbrev pub is_other_level : Asked → Option Level → Bool
is_other_level asked None = false
is_other_level asked (Some level) = not (is_level asked level)

abbrev pub is_repeatable : Option Level → Bool
is_repeatable None = false
is_repeatable (Some Serializable) = false
is_repeatable (Some RepeatableRead) = true
is_repeatable (Some (Read word)) = false

-- which kind is asked for
abbrev pub begin_has : SqlPart → Option Level → Bool
begin_has part.Level level = is_some level
begin_has (part.OtherLevel asked) level = is_other_level asked level
begin_has part.RepeatableRead level = is_repeatable level
begin_has part.Setting level = false
begin_has part.NotNull level = false

abbrev pub set_has : SqlPart → Bool
set_has part.Level = false
set_has (part.OtherLevel asked) = false
set_has part.RepeatableRead = false
set_has part.Setting = true
set_has part.NotNull = false

abbrev pub table_has : SqlPart → Chain TablePart → Bool
table_has part.Level parts = false
table_has (part.OtherLevel asked) parts = false
table_has part.RepeatableRead parts = false
table_has part.Setting parts = false
table_has part.NotNull parts = any_of has_not_null parts

-- a level has no effect where none is asked for, as all transactions are serializable then; nor has a setting; and no value is null
abbrev pub has_part : SqlPart → Statement → Bool
has_part kind (tree.CreateTable n ps) = table_has kind ps
has_part kind (tree.Insert n names rows) = false
has_part kind (tree.Selects s) = false
has_part kind (tree.Update n as' c) = false
has_part kind (tree.Delete n c) = false
has_part kind (tree.Begin start level) = begin_has kind level
has_part kind (tree.Ends word noise) = false
has_part kind (tree.Lock word n mode nowait) = false
has_part kind (tree.Set setting) = set_has kind

-- what is read, and nothing of what is refused
abbrev pub read_or_none : Result (List StatementAt) Fault → List StatementAt
read_or_none (Ok ss) = ss
read_or_none (Err f) = []

-- where such statements begin in the file, of those of a block that begins there
abbrev pub with_at : SqlPart → ℕ → List StatementAt → List ℕ
with_at kind block ss = map (λ (s : StatementAt). offset_in block s.0) (filter (λ (s : StatementAt). has_part kind s.1) ss)

abbrev pub with_in : SqlPart → BlockTree → List ℕ
with_in kind b = with_at kind b.at (read_or_none (read_text b.text))

-- of all blocks that are sent
abbrev pub statements_with : SqlPart → List SentTree → List ℕ
statements_with kind blocks = flat_map (λ (p : SentTree). with_in kind p.block) blocks
