-- The grammar of a block: the tokens that spell a tree, and the first fault of tokens that spell none.
use Rattle.std.specs.Prelude.{◌≡◌, ℕ, suc, ◌+◌, ◌^◌, Bool, not, ◌⊎◌, List, [], ◌∷◌, ◌++◌, map, Option, Some, None, nat_lt, nat_le, codes, if◌then◌else◌, ⊤}
use Rattle.sql_grammar.specs.declared.TheConstants.{MAX_DEPTH, MAX_ROWS}
use Rattle.sql_grammar.specs.declared.error.Limit.{Limit}
use Rattle.sql_grammar.specs.declared.error.Limit.TheVariants.{NumberTooLarge, TooLarge}
use Rattle.sql_grammar.specs.Tokens.{Token, Key, Word, Sign, Number, Text, End, NoToken, NotClosed, Placed}
use Rattle.sql_grammar.specs.Tree.{Name, Chain, Last, More, Literal, Whole, Quoted, Factor, Value, Column, Term, AddSign, Plus, Minus, Sum, Only, Then, Comparison, Equal, Unequal, Differs, Less, AtMost, Greater, AtLeast, Condition, Alone, Or, Part, Single, And, Atom, Compares, Not, Group}
use Rattle.sql_grammar.specs.Tree.{TypeWord, Int, Integer, Int4, BigInt, Int8, TextType, Property, PrimaryKey, NotNull, TablePart, ColumnPart, KeyPart, Direction, Ascending, Descending, SortKey, Aggregate, Count, Total, Items, AllColumns, Columns, Aggregates, LockedFor, RowLock, written_lock, Assignment}
use Rattle.sql_grammar.specs.Tree.{Noise, Work, Transaction, ReadWord, Committed, Uncommitted, Level, Serializable, RepeatableRead, Read, EndWord, Strength, LockMode, Access, RowLevel, Shared, Exclusively, Scope, Local, Session, Start, BeginWord, StartWords, SetSign, EqualSign, ToWord, Select, Setting, Statement, CreateTable, Insert, Selects, Update, Delete, Begin, Ends, Lock, Set, Block}
use Rattle.sql_grammar.specs.Tree as tree
use Rattle.sql_grammar.specs.declared.statement.LockedFor.TheVariants as purpose
use Rattle.sql_grammar.specs.declared.error.SqlErrorKind.{SqlErrorKind as Kind}
use Rattle.sql_grammar.specs.declared.error.SqlErrorKind.TheVariants as kind

-- ---- a spelling: tokens, each with the limit that it passes, if any

pub record Marked : Type 0 where
  pub token : Token
  pub over : Option Limit

abbrev pub mark : Token → Option Limit → Marked
mark t l = record { token = t; over = l }

abbrev pub plain : Token → Marked
plain t = mark t None

abbrev pub key : List ℕ → Marked
key w = plain (Key w)

abbrev pub word : List ℕ → Marked
word w = plain (Word w)

abbrev pub sign : List ℕ → Marked
sign s = plain (Sign s)

abbrev pub passes_if : Bool → Limit → Option Limit
passes_if b l = if b then Some l else None

abbrev pub optional : {A : Type 0} → (A → List Marked) → Option A → List Marked
optional part None = []
optional part (Some x) = part x

abbrev pub each : {A : Type 0} → (A → List Marked) → List A → List Marked
each part [] = []
each part (x ∷ xs) = part x ++ each part xs

-- with commas between the items
abbrev pub chain : {A : Type 0} → (A → List Marked) → Chain A → List Marked
chain part (Last a) = part a
chain part (More a l) = part a ++ (sign (codes ",") ∷ chain part l)

abbrev pub name : Name → List Marked
name n = word n ∷ []

-- ---- expressions

-- a number of this sign fits i64
abbrev pub fits : Bool → ℕ → Bool
fits negative n = nat_lt n (if negative then 2 ^ 63 + 1 else 2 ^ 63)

abbrev pub minus : Bool → List Marked
minus negative = if negative then sign (codes "-") ∷ [] else []

abbrev pub literal : Literal → List Marked
literal (Whole negative n) = minus negative ++ (mark (Number n) (passes_if (not (fits negative n)) NumberTooLarge) ∷ [])
literal (Quoted bytes) = plain (Text bytes) ∷ []

abbrev pub factor : Factor → List Marked
factor (Value l) = literal l
factor (Column n) = name n

abbrev pub term : Term → List Marked
term (Last f) = factor f
term (More f t) = factor f ++ (sign (codes "*") ∷ term t)

abbrev pub add_sign : AddSign → List ℕ
add_sign Plus = codes "+"
add_sign Minus = codes "-"

abbrev pub sum : Sum → List Marked
sum (Only t) = term t
sum (Then t s e) = term t ++ (sign (add_sign s) ∷ sum e)

abbrev pub comparison : Comparison → List ℕ
comparison Equal = codes "="
comparison Unequal = codes "<>"
comparison Differs = codes "!="
comparison Less = codes "<"
comparison AtMost = codes "<="
comparison Greater = codes ">"
comparison AtLeast = codes ">="

-- ---- conditions: n levels of parentheses and NOT stand above

-- the 33rd level
abbrev pub too_deep : ℕ → Option Limit
too_deep n = passes_if (nat_le MAX_DEPTH n) TooLarge

abbrev mutual
  pub condition : Condition → ℕ → List Marked
  condition (Alone p) n = part p n
  condition (Or p c) n = part p n ++ (key (codes "or") ∷ condition c n)

  pub part : Part → ℕ → List Marked
  part (Single a) n = atom a n
  part (And a p) n = atom a n ++ (key (codes "and") ∷ part p n)

  pub atom : Atom → ℕ → List Marked
  atom (Compares a c b) n = sum a ++ (sign (comparison c) ∷ sum b)
  atom (Not a) n = mark (Key (codes "not")) (too_deep n) ∷ atom a (suc n)
  atom (Group c) n = mark (Sign (codes "(")) (too_deep n) ∷ (condition c (suc n) ++ (sign (codes ")") ∷ []))

abbrev pub where_part : Condition → List Marked
where_part c = key (codes "where") ∷ condition c 0

-- ---- statements

abbrev pub type_word : TypeWord → List ℕ
type_word Int = codes "int"
type_word Integer = codes "integer"
type_word Int4 = codes "int4"
type_word BigInt = codes "bigint"
type_word Int8 = codes "int8"
type_word TextType = codes "text"

abbrev pub property : Property → List Marked
property PrimaryKey = key (codes "primary") ∷ word (codes "key") ∷ []
property NotNull = key (codes "not") ∷ word (codes "null") ∷ []

abbrev pub table_part : TablePart → List Marked
table_part (ColumnPart n t ps) = word n ∷ word (type_word t) ∷ each property ps
table_part (KeyPart n) = key (codes "primary") ∷ word (codes "key") ∷ sign (codes "(") ∷ word n ∷ sign (codes ")") ∷ []

abbrev pub names_part : Chain Name → List Marked
names_part ns = sign (codes "(") ∷ (chain name ns ++ (sign (codes ")") ∷ []))

-- the rows from the one of number k on, counted from 0
abbrev pub row : ℕ → Chain Literal → List Marked
row k r = mark (Sign (codes "(")) (passes_if (nat_le MAX_ROWS k) TooLarge) ∷ (chain literal r ++ (sign (codes ")") ∷ []))

abbrev pub rows : ℕ → Chain (Chain Literal) → List Marked
rows k (Last r) = row k r
rows k (More r rs) = row k r ++ (sign (codes ",") ∷ rows (suc k) rs)

abbrev pub aggregate : Aggregate → List Marked
aggregate Count = word (codes "count") ∷ sign (codes "(") ∷ sign (codes "*") ∷ sign (codes ")") ∷ []
aggregate (Total n) = word (codes "sum") ∷ sign (codes "(") ∷ word n ∷ sign (codes ")") ∷ []

abbrev pub items : Items → List Marked
items AllColumns = sign (codes "*") ∷ []
items (Columns ns) = chain name ns
items (Aggregates as') = chain aggregate as'

abbrev pub direction : Direction → List Marked
direction Ascending = key (codes "asc") ∷ []
direction Descending = key (codes "desc") ∷ []

abbrev pub sort_key : SortKey → List Marked
sort_key k = word k.column ∷ optional direction k.direction

abbrev pub order_part : Chain SortKey → List Marked
order_part ks = key (codes "order") ∷ key (codes "by") ∷ chain sort_key ks

abbrev pub assignment : Assignment → List Marked
assignment a = word a.column ∷ sign (codes "=") ∷ sum a.value

abbrev pub noise : Noise → List Marked
noise Work = word (codes "work") ∷ []
noise Transaction = word (codes "transaction") ∷ []

abbrev pub read_word : ReadWord → List ℕ
read_word Committed = codes "committed"
read_word Uncommitted = codes "uncommitted"

abbrev pub level : Level → List Marked
level Serializable = word (codes "serializable") ∷ []
level RepeatableRead = word (codes "repeatable") ∷ word (codes "read") ∷ []
level (Read w) = word (codes "read") ∷ word (read_word w) ∷ []

abbrev pub level_part : Level → List Marked
level_part l = word (codes "isolation") ∷ word (codes "level") ∷ level l

abbrev pub start : Start → List Marked
start (BeginWord w) = word (codes "begin") ∷ optional noise w
start StartWords = word (codes "start") ∷ word (codes "transaction") ∷ []

abbrev pub end_word : EndWord → List ℕ
end_word tree.Commit = codes "commit"
end_word tree.End = codes "end"
end_word tree.Rollback = codes "rollback"
end_word tree.Abort = codes "abort"

abbrev pub strength : Strength → List ℕ
strength tree.Share = codes "share"
strength tree.Exclusive = codes "exclusive"

abbrev pub lock_mode : LockMode → List Marked
lock_mode (Access s) = word (codes "access") ∷ word (strength s) ∷ []
lock_mode (RowLevel s) = word (codes "row") ∷ word (strength s) ∷ []
lock_mode (Shared more) = word (codes "share") ∷ (if more then word (codes "row") ∷ word (codes "exclusive") ∷ [] else [])
lock_mode Exclusively = word (codes "exclusive") ∷ []

abbrev pub mode_part : LockMode → List Marked
mode_part m = key (codes "in") ∷ (lock_mode m ++ (word (codes "mode") ∷ []))

abbrev pub scope : Scope → List Marked
scope Local = word (codes "local") ∷ []
scope Session = word (codes "session") ∷ []

abbrev pub set_sign : SetSign → Token
set_sign EqualSign = Sign (codes "=")
set_sign ToWord = Word (codes "to")

abbrev pub setting : Setting → List Marked
setting s = optional scope s.scope ++ (word s.name ∷ plain (set_sign s.sign) ∷ factor s.value)

abbrev pub nowait : Bool → List Marked
nowait refuses = if refuses then word (codes "nowait") ∷ [] else []

abbrev pub locked_for : LockedFor → List ℕ
locked_for purpose.Update = codes "update"
locked_for purpose.Share = codes "share"

abbrev pub row_lock : RowLock → List Marked
row_lock l = word (codes "for") ∷ word (locked_for l.locked_for) ∷ nowait l.nowait

abbrev pub select : Select → List Marked
select s =
    items s.items
    ++ (key (codes "from") ∷ word s.table
    ∷ (optional where_part s.where' ++ (optional order_part s.order ++ optional row_lock (written_lock s.items s.lock))))

abbrev pub statement : Statement → List Marked
statement (CreateTable n ps) = word (codes "create") ∷ key (codes "table") ∷ word n ∷ sign (codes "(") ∷ (chain table_part ps ++ (sign (codes ")") ∷ []))
statement (Insert n cs rs) = word (codes "insert") ∷ key (codes "into") ∷ word n ∷ (optional names_part cs ++ (key (codes "values") ∷ rows 0 rs))
statement (Selects s) = key (codes "select") ∷ select s
statement (Update n as' c) = word (codes "update") ∷ word n ∷ key (codes "set") ∷ (chain assignment as' ++ optional where_part c)
statement (Delete n c) = word (codes "delete") ∷ key (codes "from") ∷ word n ∷ optional where_part c
statement (Begin s l) = start s ++ optional level_part l
statement (Ends w n) = word (end_word w) ∷ optional noise n
statement (Lock t n m w) = word (codes "lock") ∷ ((if t then key (codes "table") ∷ [] else []) ++ (word n ∷ (optional mode_part m ++ nowait w)))
statement (Set s) = key (codes "set") ∷ setting s

abbrev pub statements : Block → List Marked
statements (Last s) = optional statement s
statements (More s b) = optional statement s ++ (sign (codes ";") ∷ statements b)

abbrev pub spelling : Block → List Marked
spelling b = statements b ++ (plain End ∷ [])

-- tokens that pass no limit
abbrev pub good : List Placed → List Marked
good ps = map (λ p. plain p.token) ps

-- ---- the first fault

-- Some text of the grammar, limits aside, begins with these tokens, and none of them passes a limit.
pub record Begins (front : List Placed) : Type 0 where
  pub tree : Block
  pub rest : List Marked
  pub whole : spelling tree ≡ good front ++ rest

-- After these tokens the token may come, limits aside; there it passes this limit, if any.
pub record MayCome (front : List Placed) (t : Token) (over : Option Limit) : Type 0 where
  pub tree : Block
  pub rest : List Marked
  pub whole : spelling tree ≡ good front ++ (mark t over ∷ rest)

abbrev pub IsWord : Token → Type 0
IsWord (Key w) = ⊤
IsWord (Word w) = ⊤
IsWord t = ⊥

abbrev pub IsToken : Token → Type 0
IsToken NoToken = ⊥
IsToken NotClosed = ⊥
IsToken t = ⊤

-- A statement begins after these tokens: they are none, or end with a semicolon.
abbrev pub AtStatement : List Placed → Type 0
AtStatement front = (front ≡ []) ⊎ ((before : List Placed) × (at : ℕ) × (front ≡ before ++ (record { at = at; token = Sign (codes ";") } ∷ [])))

-- The token may come, but only over a limit.
abbrev pub OnlyOver : List Placed → Token → Limit → Type 0
OnlyOver front t l = MayCome front t (Some l) × (MayCome front t None → ⊥)

-- The token may not come, limits aside.
abbrev pub CannotCome : List Placed → Token → Type 0
CannotCome front t = (over : Option Limit) → MayCome front t over → ⊥

abbrev pub kind_of_limit : Limit → Kind
kind_of_limit NumberTooLarge = kind.NumberTooLarge
kind_of_limit TooLarge = kind.TooLarge

-- What the fault is where the token t, after these tokens, is the first that cannot be read or cannot stand.
pub data IsKind (front : List Placed) (t : Token) : Kind → Type 0 where
  bad_token : t ≡ NoToken → IsKind front t kind.BadToken
  unclosed : t ≡ NotClosed → IsKind front t kind.Unclosed
  unsupported : IsWord t → AtStatement front → CannotCome front t → IsKind front t kind.Unsupported
  syntax : IsToken t → (IsWord t → AtStatement front → ⊥) → CannotCome front t → IsKind front t kind.Syntax
  over : (l : Limit) → OnlyOver front t l → IsKind front t (kind_of_limit l)

pub record Fault : Type 0 where
  pub kind : Kind
  pub at : ℕ

-- The first place where no text of the grammar goes on so, or a limit is passed, and what is wrong there.
pub record FirstFault (ts : List Placed) (fault : Fault) : Type 0 where
  pub front : List Placed
  pub here : Placed
  pub after : List Placed
  pub parts : ts ≡ front ++ (here ∷ after)
  pub good : Begins front
  pub bad : MayCome front here.token None → ⊥
  pub kind : IsKind front here.token fault.kind
  pub at : fault.at ≡ here.at
