-- Statements as they are written, word for word; case, blank space and comments leave no trace.
use Rattle.std.specs.Prelude.{ℕ, suc, ◌≤◌, Bool, List, Option, None, ⊤}
use Rattle.sql_grammar.specs.declared.TheConstants.{MAX_ROWS}
pub use Rattle.sql_grammar.specs.declared.expression.Literal.{Literal}
pub use Rattle.sql_grammar.specs.declared.expression.Literal.TheVariants.{Whole, Quoted}
pub use Rattle.sql_grammar.specs.declared.expression.Factor.{Factor}
pub use Rattle.sql_grammar.specs.declared.expression.Factor.TheVariants.{Value, Column}
pub use Rattle.sql_grammar.specs.declared.expression.AddSign.{AddSign}
pub use Rattle.sql_grammar.specs.declared.expression.AddSign.TheVariants.{Plus, Minus}
pub use Rattle.sql_grammar.specs.declared.expression.Comparison.{Comparison}
pub use Rattle.sql_grammar.specs.declared.expression.Comparison.TheVariants.{Equal, Unequal, Differs, Less, AtMost, Greater, AtLeast}
pub use Rattle.sql_grammar.specs.declared.statement.TypeWord.{TypeWord}
pub use Rattle.sql_grammar.specs.declared.statement.TypeWord.TheVariants.{Int, Integer, Int4, BigInt, Int8, Text as TextType}
pub use Rattle.sql_grammar.specs.declared.statement.Property.{Property}
pub use Rattle.sql_grammar.specs.declared.statement.Property.TheVariants.{PrimaryKey, NotNull}
pub use Rattle.sql_grammar.specs.declared.statement.TablePart.{TablePart}
pub use Rattle.sql_grammar.specs.declared.statement.TablePart.TheVariants.{Column as ColumnPart, Key as KeyPart}
pub use Rattle.sql_grammar.specs.declared.statement.Direction.{Direction}
pub use Rattle.sql_grammar.specs.declared.statement.Direction.TheVariants.{Ascending, Descending}
pub use Rattle.sql_grammar.specs.declared.statement.SortKey.{SortKey}
pub use Rattle.sql_grammar.specs.declared.statement.Aggregate.{Aggregate}
pub use Rattle.sql_grammar.specs.declared.statement.Aggregate.TheVariants.{Count, Total}
pub use Rattle.sql_grammar.specs.declared.statement.LockedFor.{LockedFor}
pub use Rattle.sql_grammar.specs.declared.statement.RowLock.{RowLock}
pub use Rattle.sql_grammar.specs.declared.statement.Noise.{Noise}
pub use Rattle.sql_grammar.specs.declared.statement.Noise.TheVariants.{Work, Transaction}
pub use Rattle.sql_grammar.specs.declared.statement.ReadWord.{ReadWord}
pub use Rattle.sql_grammar.specs.declared.statement.ReadWord.TheVariants.{Committed, Uncommitted}
pub use Rattle.sql_grammar.specs.declared.statement.Level.{Level}
pub use Rattle.sql_grammar.specs.declared.statement.Level.TheVariants.{Serializable, RepeatableRead, Read}
pub use Rattle.sql_grammar.specs.declared.statement.EndWord.{EndWord}
pub use Rattle.sql_grammar.specs.declared.statement.EndWord.TheVariants.{Commit, End, Rollback, Abort}
pub use Rattle.sql_grammar.specs.declared.statement.Strength.{Strength}
pub use Rattle.sql_grammar.specs.declared.statement.Strength.TheVariants.{Share, Exclusive}
pub use Rattle.sql_grammar.specs.declared.statement.LockMode.{LockMode}
pub use Rattle.sql_grammar.specs.declared.statement.LockMode.TheVariants.{Access, RowLevel, Shared, Exclusively}
pub use Rattle.sql_grammar.specs.declared.statement.Scope.{Scope}
pub use Rattle.sql_grammar.specs.declared.statement.Scope.TheVariants.{Local, Session}
pub use Rattle.sql_grammar.specs.declared.statement.Start.{Start}
pub use Rattle.sql_grammar.specs.declared.statement.Start.TheVariants.{BeginWord, StartWords}
pub use Rattle.sql_grammar.specs.declared.statement.SetSign.{SetSign}
pub use Rattle.sql_grammar.specs.declared.statement.SetSign.TheVariants.{EqualSign, ToWord}
pub use Rattle.sql_grammar.specs.declared.statement.Setting.{Setting}

-- a name, in lower case
abbrev pub Name : Type 0
Name = List ℕ

-- one or more
pub data Chain (A : Type 0) : Type 0 where
  Last : (item : A) → Chain A
  More : (item : A) → (rest : Chain A) → Chain A

-- how many there are
abbrev pub count : {A : Type 0} → Chain A → ℕ
count (Last x) = 1
count (More x c) = suc (count c)

-- ---- expressions and conditions

abbrev pub Term : Type 0
Term = Chain Factor

-- terms with signs between them; they are added from the left
pub data Sum : Type 0 where
  Only : Term → Sum
  Then : Term → AddSign → Sum → Sum

mutual
  -- parts joined by OR
  pub data Condition : Type 0 where
    Alone : Part → Condition
    Or : Part → Condition → Condition

  -- conditions joined by AND
  pub data Part : Type 0 where
    Single : Atom → Part
    And : Atom → Part → Part

  pub data Atom : Type 0 where
    Compares : Sum → Comparison → Sum → Atom
    Not : Atom → Atom
    Group : Condition → Atom

-- ---- statements

pub data Items : Type 0 where
  AllColumns : Items
  Columns : Chain Name → Items
  Aggregates : Chain Aggregate → Items

pub record Assignment : Type 0 where
  pub column : Name
  pub value : Sum

-- a lock on the rows that are shown; none may be written where aggregates are
abbrev pub LockOf : Items → Type 0
LockOf AllColumns = Option RowLock
LockOf (Columns names) = Option RowLock
LockOf (Aggregates as') = Unit {0}

abbrev pub lock_for : (shown : Items) → Option RowLock → LockOf shown
lock_for AllColumns l = l
lock_for (Columns names) l = l
lock_for (Aggregates as') l = tt

abbrev pub written_lock : (shown : Items) → LockOf shown → Option RowLock
written_lock AllColumns l = l
written_lock (Columns names) l = l
written_lock (Aggregates as') l = None

pub record Select : Type 0 where
  pub items : Items
  pub table : Name
  pub where' : Option Condition
  pub order : Option (Chain SortKey)
  pub lock : LockOf items

pub data Statement : Type 0 where
  CreateTable : Name → Chain TablePart → Statement
  Insert : Name → Option (Chain Name) → Chain (Chain Literal) → Statement
  Selects : Select → Statement
  Update : Name → Chain Assignment → Option Condition → Statement
  Delete : Name → Option Condition → Statement
  Begin : Start → Option Level → Statement
  Ends : EndWord → Option Noise → Statement
  Lock : (table_word : Bool) → Name → Option LockMode → (nowait : Bool) → Statement
  Set : Setting → Statement

-- an INSERT has at most 100 rows
abbrev pub HasFewRows : Statement → Type 0
HasFewRows (Insert n names rows) = count rows ≤ MAX_ROWS
HasFewRows s = ⊤

-- a block: statements separated by semicolons, some of them empty
abbrev pub Block : Type 0
Block = Chain (Option Statement)
