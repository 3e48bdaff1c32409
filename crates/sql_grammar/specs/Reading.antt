-- Reading from left to right: a function for each rule of the grammar, named after it.
use Rattle.std.specs.Prelude.{ℕ, zero, suc, Bool, true, false, not, ◌||◌, ◌&&◌, List, [], ◌∷◌, length, Option, Some, None, Result, Ok, Err, if◌then◌else◌, codes, nat_le, is_some}
use Rattle.sql_grammar.specs.declared.TheConstants.{MAX_DEPTH, MAX_ROWS}
use Rattle.sql_grammar.specs.declared.error.Limit.{Limit}
use Rattle.sql_grammar.specs.declared.error.Limit.TheVariants.{NumberTooLarge, TooLarge}
use Rattle.sql_grammar.specs.Tokens.{Token, Key, Word, Sign, Number, Text, End, NoToken, NotClosed, Placed, is}
use Rattle.sql_grammar.specs.Tree.{Name, Chain, Last, More, Literal, Whole, Quoted, Factor, Value, Column, Term, AddSign, Plus, Minus, Sum, Only, Then, Comparison, Equal, Unequal, Differs, Less, AtMost, Greater, AtLeast, Condition, Alone, Or, Part, Single, And, Atom, Compares, Not, Group}
use Rattle.sql_grammar.specs.Tree.{TypeWord, Int, Integer, Int4, BigInt, Int8, TextType, Property, PrimaryKey, NotNull, TablePart, ColumnPart, KeyPart, Direction, Ascending, Descending, SortKey, Aggregate, Count, Total, Items, AllColumns, Columns, Aggregates, LockedFor, RowLock, lock_for, Assignment}
use Rattle.sql_grammar.specs.Tree.{Noise, Work, Transaction, ReadWord, Committed, Uncommitted, Level, Serializable, RepeatableRead, EndWord, Strength, LockMode, Access, RowLevel, Shared, Exclusively, Scope, Local, Session, Start, BeginWord, StartWords, SetSign, EqualSign, ToWord, Select, Setting, Statement, CreateTable, Insert, Selects, Update, Delete, Begin, Ends, Lock, Set, Block}
use Rattle.sql_grammar.specs.Tree as tree
use Rattle.sql_grammar.specs.declared.statement.LockedFor.TheVariants as purpose
use Rattle.sql_grammar.specs.Grammar.{fits, Fault, kind_of_limit}
use Rattle.sql_grammar.specs.declared.error.SqlErrorKind.{SqlErrorKind as Kind}
use Rattle.sql_grammar.specs.declared.error.SqlErrorKind.TheVariants as kind
-- why a token stops the reading of a part
pub use Rattle.sql_grammar.specs.declared.error.Why.{Why}
pub use Rattle.sql_grammar.specs.declared.error.Why.TheVariants.{CannotStand, Passes}

pub record Stop : Type 0 where
  pub why : Why
  pub here : Placed

-- what is read, and the tokens after it
abbrev pub Read : Type 0 → Type 0
Read A = Result (A × List Placed) Stop

abbrev pub and_then : {A B : Type 0} → Result A Fault → (A → Result B Fault) → Result B Fault
and_then (Ok x) f = f x
and_then (Err e) f = Err e

infixl 10 ◌>>=◌
abbrev pub ◌>>=◌ : {A B : Type 0} → Result A Stop → (A → Result B Stop) → Result B Stop
(Ok x) >>= f = f x
(Err e) >>= f = Err e

-- the first token: a text has an end, so this is never asked of no tokens
abbrev pub first : List Placed → Placed
first [] = record { at = 0; token = End }
first (t ∷ ts) = t

abbrev pub rest : List Placed → List Placed
rest [] = []
rest (t ∷ ts) = ts

abbrev pub at : Token → List Placed → Bool
at w ts = is w (first ts).token

abbrev pub halt : {A : Type 0} → Why → List Placed → Read A
halt why ts = Err (record { why = why; here = first ts })

-- the first token, as what it is taken for
abbrev pub taken : {A : Type 0} → Option A → List Placed → Read A
taken None ts = halt CannotStand ts
taken (Some x) ts = Ok (x, rest ts)

-- the same, unless it passes a limit
abbrev pub within : {A : Type 0} → (A → Option Limit) → Option A → List Placed → Read A
within over None ts = halt CannotStand ts
within over (Some x) ts = elim (over x) [ None ↦ Ok (x, rest ts) | Some l ↦ halt (Passes l) ts ]

-- ---- one token

abbrev pub the : Token → Token → Option (Unit {0})
the w t = if is w t then Some tt else None

abbrev pub skip : Token → List Placed → Read (Unit {0})
skip w ts = taken (the w (first ts).token) ts

-- which of these tokens it is
abbrev pub which : {A : Type 0} → List (Token × A) → Token → Option A
which [] t = None
which (e ∷ es) t = if is e.0 t then Some e.1 else which es t

abbrev pub name_of : Token → Option Name
name_of (Word w) = Some w
name_of t = None

abbrev pub name : List Placed → Read Name
name ts = taken (name_of (first ts).token) ts

-- ---- parts

-- a part that begins with this token, or nothing
abbrev pub optional : {A : Type 0} → Token → (List Placed → Read A) → List Placed → Read (Option A)
optional w part ts = if at w ts then (part ts >>= λ x. Ok (Some x.0, x.1)) else Ok (None, ts)

-- items, each but the last one followed by a separator; the items are numbered from k, and n bounds how many are looked for
abbrev pub chain : {A S L : Type 0} → (A → L) → (A → S → L → L) → (Token → Option S) → (ℕ → List Placed → Read A) → ℕ → ℕ → List Placed → Read L
chain last more sep item zero k ts = halt CannotStand ts
chain last more sep item (suc n) k ts = do
  a ← item k ts
  elim (sep (first a.1).token) [
    | None ↦ Ok (last a.0, a.1)
    | Some s ↦ chain last more sep item n (suc k) (rest a.1) >>= λ l. Ok (more a.0 s l.0, l.1)
  ]

-- items with commas between them
abbrev pub with_commas : {A : Type 0} → (ℕ → List Placed → Read A) → List Placed → Read (Chain A)
with_commas item ts = chain Last (λ a u l. More a l) (the (Sign (codes ","))) item (suc (length ts)) 0 ts

-- ---- expressions

abbrev pub number_of : Token → Option ℕ
number_of (Number n) = Some n
number_of t = None

abbrev pub text_of : Token → Option (List ℕ)
text_of (Text b) = Some b
text_of t = None

abbrev pub over_i64 : Bool → ℕ → Option Limit
over_i64 negative n = if not (fits negative n) then Some NumberTooLarge else None

abbrev pub whole : Bool → List Placed → Read Literal
whole negative ts = within (over_i64 negative) (number_of (first ts).token) ts >>= λ n. Ok (Whole negative n.0, n.1)

abbrev pub is_text : Token → Bool
is_text (Text b) = true
is_text t = false

abbrev pub quoted_text : List Placed → Read Literal
quoted_text ts = taken (text_of (first ts).token) ts >>= λ b. Ok (Quoted b.0, b.1)

abbrev pub literal : List Placed → Read Literal
literal ts =
    if is_text (first ts).token then quoted_text ts
    else (if at (Sign (codes "-")) ts then (skip (Sign (codes "-")) ts >>= λ m. whole true m.1)
    else whole false ts)

abbrev pub is_name : Token → Bool
is_name (Word w) = true
is_name t = false

abbrev pub factor : List Placed → Read Factor
factor ts =
    if is_name (first ts).token then (name ts >>= λ n. Ok (Column n.0, n.1))
    else (literal ts >>= λ l. Ok (Value l.0, l.1))

abbrev pub term : List Placed → Read Term
term ts = chain Last (λ f u t. More f t) (the (Sign (codes "*"))) (λ k. factor) (suc (length ts)) 0 ts

abbrev pub add_sign : Token → Option AddSign
add_sign t = which ((Sign (codes "+"), Plus) ∷ (Sign (codes "-"), Minus) ∷ []) t

abbrev pub sum : List Placed → Read Sum
sum ts = chain Only Then add_sign (λ k. term) (suc (length ts)) 0 ts

abbrev pub comparison : Token → Option Comparison
comparison t = which ((Sign (codes "="), Equal) ∷ (Sign (codes "<>"), Unequal) ∷ (Sign (codes "!="), Differs) ∷ (Sign (codes "<"), Less)
    ∷ (Sign (codes "<="), AtMost) ∷ (Sign (codes ">"), Greater) ∷ (Sign (codes ">="), AtLeast) ∷ []) t

-- ---- conditions: b more levels may be opened

abbrev pub compares : List Placed → Read Atom
compares ts = do
  a ← sum ts
  c ← taken (comparison (first a.1).token) a.1
  b ← sum c.1
  Ok (Compares a.0 c.0 b.0, b.1)

abbrev pub part_of : (List Placed → Read Atom) → List Placed → Read Part
part_of atom ts = chain Single (λ a u p. And a p) (the (Key (codes "and"))) (λ k. atom) (suc (length ts)) 0 ts

abbrev pub condition_of : (List Placed → Read Atom) → List Placed → Read Condition
condition_of atom ts = chain Alone (λ p u c. Or p c) (the (Key (codes "or"))) (λ k. part_of atom) (suc (length ts)) 0 ts

abbrev pub negated : (List Placed → Read Atom) → List Placed → Read Atom
negated atom ts = do
  n ← skip (Key (codes "not")) ts
  a ← atom n.1
  Ok (Not a.0, a.1)

abbrev pub group : (List Placed → Read Atom) → List Placed → Read Atom
group atom ts = do
  o ← skip (Sign (codes "(")) ts
  c ← condition_of atom o.1
  d ← skip (Sign (codes ")")) c.1
  Ok (Group c.0, d.1)

abbrev pub one_of_three : Bool → Bool → Read Atom → Read Atom → Read Atom → Read Atom
one_of_three is_not is_open x y z = if is_not then x else (if is_open then y else z)

abbrev pub atom : ℕ → List Placed → Read Atom
atom zero ts = one_of_three (at (Key (codes "not")) ts) (at (Sign (codes "(")) ts) (halt (Passes TooLarge) ts) (halt (Passes TooLarge) ts) (compares ts)
atom (suc b) ts = one_of_three (at (Key (codes "not")) ts) (at (Sign (codes "(")) ts) (negated (atom b) ts) (group (atom b) ts) (compares ts)

unfoldable pub condition : List Placed → Read Condition
condition ts = condition_of (atom MAX_DEPTH) ts

abbrev pub where_part : List Placed → Read Condition
where_part ts = skip (Key (codes "where")) ts >>= λ w. condition w.1

-- ---- statements

-- items while this test of the first token holds
abbrev pub many : {A : Type 0} → (Token → Bool) → (List Placed → Read A) → ℕ → List Placed → Read (List A)
many goes item zero ts = halt CannotStand ts
many goes item (suc n) ts =
    if goes (first ts).token then (item ts >>= λ a. many goes item n a.1 >>= λ l. Ok (a.0 ∷ l.0, l.1))
    else Ok ([], ts)

abbrev pub type_word : Token → Option TypeWord
type_word t = which ((Word (codes "int"), Int) ∷ (Word (codes "integer"), Integer) ∷ (Word (codes "int4"), Int4) ∷ (Word (codes "bigint"), BigInt)
    ∷ (Word (codes "int8"), Int8) ∷ (Word (codes "text"), TextType) ∷ []) t

abbrev pub begins_property : Token → Bool
begins_property t = is (Key (codes "primary")) t || is (Key (codes "not")) t

abbrev pub primary_key : List Placed → Read (Unit {0})
primary_key ts = skip (Key (codes "primary")) ts >>= λ p. skip (Word (codes "key")) p.1

abbrev pub not_null : List Placed → Read (Unit {0})
not_null ts = skip (Key (codes "not")) ts >>= λ p. skip (Word (codes "null")) p.1

abbrev pub property : List Placed → Read Property
property ts =
    if at (Key (codes "primary")) ts then (primary_key ts >>= λ x. Ok (PrimaryKey, x.1))
    else (not_null ts >>= λ x. Ok (NotNull, x.1))

-- a property, if one goes on
abbrev pub next_property : List Placed → Result (Option (Property × List Placed)) Stop
next_property ts = if begins_property (first ts).token then (property ts >>= λ x. Ok (Some x)) else Ok None

abbrev pub column_part : List Placed → Read TablePart
column_part ts = do
  n ← name ts
  t ← taken (type_word (first n.1).token) n.1
  ps ← many begins_property property (suc (length t.1)) t.1
  Ok (ColumnPart n.0 t.0 ps.0, ps.1)

abbrev pub key_part : List Placed → Read TablePart
key_part ts = do
  p ← skip (Key (codes "primary")) ts
  k ← skip (Word (codes "key")) p.1
  o ← skip (Sign (codes "(")) k.1
  n ← name o.1
  c ← skip (Sign (codes ")")) n.1
  Ok (KeyPart n.0, c.1)

abbrev pub table_part : List Placed → Read TablePart
table_part ts = if at (Key (codes "primary")) ts then key_part ts else column_part ts

abbrev pub create : List Placed → Read Statement
create ts = do
  a ← skip (Word (codes "create")) ts
  b ← skip (Key (codes "table")) a.1
  n ← name b.1
  o ← skip (Sign (codes "(")) n.1
  ps ← with_commas (λ k. table_part) o.1
  c ← skip (Sign (codes ")")) ps.1
  Ok (CreateTable n.0 ps.0, c.1)

abbrev pub names_part : List Placed → Read (Chain Name)
names_part ts = do
  o ← skip (Sign (codes "(")) ts
  ns ← with_commas (λ k. name) o.1
  c ← skip (Sign (codes ")")) ns.1
  Ok (ns.0, c.1)

abbrev pub over_rows : ℕ → Unit {0} → Option Limit
over_rows k u = if nat_le MAX_ROWS k then Some TooLarge else None

-- the row of number k
abbrev pub row : ℕ → List Placed → Read (Chain Literal)
row k ts = do
  o ← within (over_rows k) (the (Sign (codes "(")) (first ts).token) ts
  r ← with_commas (λ i. literal) o.1
  c ← skip (Sign (codes ")")) r.1
  Ok (r.0, c.1)

abbrev pub insert : List Placed → Read Statement
insert ts = do
  a ← skip (Word (codes "insert")) ts
  b ← skip (Key (codes "into")) a.1
  n ← name b.1
  cs ← optional (Sign (codes "(")) names_part n.1
  v ← skip (Key (codes "values")) cs.1
  rs ← with_commas row v.1
  Ok (Insert n.0 cs.0 rs.0, rs.1)

abbrev pub count_all : List Placed → Read Aggregate
count_all ts = do
  w ← skip (Word (codes "count")) ts
  o ← skip (Sign (codes "(")) w.1
  s ← skip (Sign (codes "*")) o.1
  c ← skip (Sign (codes ")")) s.1
  Ok (Count, c.1)

abbrev pub sum_of : List Placed → Read Aggregate
sum_of ts = do
  w ← skip (Word (codes "sum")) ts
  o ← skip (Sign (codes "(")) w.1
  n ← name o.1
  c ← skip (Sign (codes ")")) n.1
  Ok (Total n.0, c.1)

abbrev pub aggregate : List Placed → Read Aggregate
aggregate ts = if at (Word (codes "count")) ts then count_all ts else sum_of ts

-- count and sum are aggregates where ( follows
abbrev pub at_aggregate : List Placed → Bool
at_aggregate ts = if at (Word (codes "count")) ts || at (Word (codes "sum")) ts then at (Sign (codes "(")) (rest ts) else false

abbrev pub items : List Placed → Read Items
items ts =
    if at (Sign (codes "*")) ts then (skip (Sign (codes "*")) ts >>= λ x. Ok (AllColumns, x.1))
    else (if at_aggregate ts then (with_commas (λ k. aggregate) ts >>= λ as'. Ok (Aggregates as'.0, as'.1))
    else (with_commas (λ k. name) ts >>= λ ns. Ok (Columns ns.0, ns.1)))

abbrev pub direction : Token → Option Direction
direction t = which ((Key (codes "asc"), Ascending) ∷ (Key (codes "desc"), Descending) ∷ []) t

abbrev pub maybe_direction : List Placed → Read (Option Direction)
maybe_direction ts = elim (direction (first ts).token) [ None ↦ Ok (None, ts) | Some d ↦ Ok (Some d, rest ts) ]

abbrev pub sort_key : List Placed → Read SortKey
sort_key ts = do
  n ← name ts
  d ← maybe_direction n.1
  Ok (record { column = n.0; direction = d.0 }, d.1)

abbrev pub order_part : List Placed → Read (Chain SortKey)
order_part ts = do
  o ← skip (Key (codes "order")) ts
  b ← skip (Key (codes "by")) o.1
  with_commas (λ k. sort_key) b.1

abbrev pub maybe_nowait : List Placed → Read Bool
maybe_nowait ts = if at (Word (codes "nowait")) ts then (skip (Word (codes "nowait")) ts >>= λ x. Ok (true, x.1)) else Ok (false, ts)

abbrev pub locked_for : Token → Option LockedFor
locked_for t = which ((Word (codes "update"), purpose.Update) ∷ (Word (codes "share"), purpose.Share) ∷ []) t

abbrev pub row_lock : List Placed → Read RowLock
row_lock ts = do
  f ← skip (Word (codes "for")) ts
  p ← taken (locked_for (first f.1).token) f.1
  n ← maybe_nowait p.1
  Ok (record { locked_for = p.0; nowait = n.0 }, n.1)

-- a lock may be written where rows are shown
abbrev pub lock_part : Items → List Placed → Read (Option RowLock)
lock_part AllColumns ts = optional (Word (codes "for")) row_lock ts
lock_part (Columns names) ts = optional (Word (codes "for")) row_lock ts
lock_part (Aggregates as') ts = Ok (None, ts)

abbrev pub select : List Placed → Read Statement
select ts = do
  s ← skip (Key (codes "select")) ts
  is' ← items s.1
  f ← skip (Key (codes "from")) is'.1
  n ← name f.1
  w ← optional (Key (codes "where")) where_part n.1
  o ← optional (Key (codes "order")) order_part w.1
  l ← lock_part is'.0 o.1
  Ok (Selects (record { items = is'.0; table = n.0; where' = w.0; order = o.0; lock = lock_for is'.0 l.0 }), l.1)

abbrev pub assignment : List Placed → Read Assignment
assignment ts = do
  n ← name ts
  e ← skip (Sign (codes "=")) n.1
  v ← sum e.1
  Ok (record { column = n.0; value = v.0 }, v.1)

abbrev pub update : List Placed → Read Statement
update ts = do
  u ← skip (Word (codes "update")) ts
  n ← name u.1
  s ← skip (Key (codes "set")) n.1
  as' ← with_commas (λ k. assignment) s.1
  w ← optional (Key (codes "where")) where_part as'.1
  Ok (Update n.0 as'.0 w.0, w.1)

abbrev pub delete : List Placed → Read Statement
delete ts = do
  d ← skip (Word (codes "delete")) ts
  f ← skip (Key (codes "from")) d.1
  n ← name f.1
  w ← optional (Key (codes "where")) where_part n.1
  Ok (Delete n.0 w.0, w.1)

abbrev pub noise : Token → Option Noise
noise t = which ((Word (codes "work"), Work) ∷ (Word (codes "transaction"), Transaction) ∷ []) t

abbrev pub maybe_noise : List Placed → Read (Option Noise)
maybe_noise ts = elim (noise (first ts).token) [ None ↦ Ok (None, ts) | Some n ↦ Ok (Some n, rest ts) ]

abbrev pub read_word : Token → Option ReadWord
read_word t = which ((Word (codes "committed"), Committed) ∷ (Word (codes "uncommitted"), Uncommitted) ∷ []) t

abbrev pub level : List Placed → Read Level
level ts =
    if at (Word (codes "serializable")) ts then (skip (Word (codes "serializable")) ts >>= λ x. Ok (Serializable, x.1))
    else (if at (Word (codes "repeatable")) ts
    then (skip (Word (codes "repeatable")) ts >>= λ x. skip (Word (codes "read")) x.1 >>= λ y. Ok (RepeatableRead, y.1))
    else (skip (Word (codes "read")) ts >>= λ x. taken (read_word (first x.1).token) x.1 >>= λ w. Ok (tree.Read w.0, w.1)))

abbrev pub level_part : List Placed → Read Level
level_part ts = skip (Word (codes "isolation")) ts >>= λ i. skip (Word (codes "level")) i.1 >>= λ l. level l.1

abbrev pub start : List Placed → Read Start
start ts =
    if at (Word (codes "begin")) ts then (skip (Word (codes "begin")) ts >>= λ b. maybe_noise b.1 >>= λ n. Ok (BeginWord n.0, n.1))
    else (skip (Word (codes "start")) ts >>= λ s. skip (Word (codes "transaction")) s.1 >>= λ t. Ok (StartWords, t.1))

abbrev pub begin : List Placed → Read Statement
begin ts = do
  s ← start ts
  l ← optional (Word (codes "isolation")) level_part s.1
  Ok (Begin s.0 l.0, l.1)

abbrev pub end_word : Token → Option EndWord
end_word t = which ((Word (codes "commit"), tree.Commit) ∷ (Word (codes "end"), tree.End)
    ∷ (Word (codes "rollback"), tree.Rollback) ∷ (Word (codes "abort"), tree.Abort) ∷ []) t

abbrev pub ends : List Placed → Read Statement
ends ts = do
  w ← taken (end_word (first ts).token) ts
  n ← maybe_noise w.1
  Ok (Ends w.0 n.0, n.1)

abbrev pub strength : Token → Option Strength
strength t = which ((Word (codes "share"), tree.Share) ∷ (Word (codes "exclusive"), tree.Exclusive) ∷ []) t

abbrev pub row_exclusive : List Placed → Read (Unit {0})
row_exclusive ts = skip (Word (codes "row")) ts >>= λ r. skip (Word (codes "exclusive")) r.1

-- what may stand behind SHARE
abbrev pub share_mode : List Placed → Read LockMode
share_mode ts = if at (Word (codes "row")) ts then (row_exclusive ts >>= λ x. Ok (Shared true, x.1)) else Ok (Shared false, ts)

abbrev pub lock_mode : List Placed → Read LockMode
lock_mode ts =
    if at (Word (codes "access")) ts then (skip (Word (codes "access")) ts >>= λ a. taken (strength (first a.1).token) a.1 >>= λ s. Ok (Access s.0, s.1))
    else (if at (Word (codes "row")) ts then (skip (Word (codes "row")) ts >>= λ a. taken (strength (first a.1).token) a.1 >>= λ s. Ok (RowLevel s.0, s.1))
    else (if at (Word (codes "share")) ts then (skip (Word (codes "share")) ts >>= λ a. share_mode a.1)
    else (skip (Word (codes "exclusive")) ts >>= λ e. Ok (Exclusively, e.1))))

abbrev pub mode_part : List Placed → Read LockMode
mode_part ts = do
  i ← skip (Key (codes "in")) ts
  m ← lock_mode i.1
  w ← skip (Word (codes "mode")) m.1
  Ok (m.0, w.1)

abbrev pub table_word : List Placed → Read Bool
table_word ts = if at (Key (codes "table")) ts then (skip (Key (codes "table")) ts >>= λ x. Ok (true, x.1)) else Ok (false, ts)

abbrev pub lock : List Placed → Read Statement
lock ts = do
  l ← skip (Word (codes "lock")) ts
  t ← table_word l.1
  n ← name t.1
  m ← optional (Key (codes "in")) mode_part n.1
  w ← maybe_nowait m.1
  Ok (Lock t.0 n.0 m.0 w.0, w.1)

-- ---- SET: local, session and to are no reserved words, so there are two readings

abbrev pub set_sign : Token → Option SetSign
set_sign t = which ((Sign (codes "="), EqualSign) ∷ (Word (codes "to"), ToWord) ∷ []) t

abbrev pub scope : Token → Option Scope
scope t = which ((Word (codes "local"), Local) ∷ (Word (codes "session"), Session) ∷ []) t

-- the token belongs to the statement: it is no semicolon, and not the end
abbrev pub inside : Token → Bool
inside t = not (is (Sign (codes ";")) t || is End t)

abbrev pub statement_end : List Placed → Read (Unit {0})
statement_end ts = if inside (first ts).token then halt CannotStand ts else Ok (tt, ts)

abbrev pub setting_after : Option Scope → List Placed → Read Statement
setting_after s ts = do
  n ← name ts
  e ← taken (set_sign (first n.1).token) n.1
  v ← factor e.1
  x ← statement_end v.1
  Ok (Set (record { scope = s; name = n.0; sign = e.0; value = v.0 }), x.1)

abbrev pub scoped_setting : List Placed → Read Statement
scoped_setting ts = taken (scope (first ts).token) ts >>= λ s. setting_after (Some s.0) s.1

-- local and session are the scope, and no name: a name that is not TO comes next; or TO comes, then =, or then TO with more behind it
abbrev pub has_scope : List Placed → Bool
has_scope ts =
    let a = rest ts in let b = rest a in let c = rest b in
    if at (Word (codes "local")) ts || at (Word (codes "session")) ts
    then (if at (Word (codes "to")) a then (at (Sign (codes "=")) b || (at (Word (codes "to")) b && inside (first c).token)) else is_name (first a).token)
    else false

abbrev pub set : List Placed → Read Statement
set ts = skip (Key (codes "set")) ts >>= λ s. if has_scope s.1 then scoped_setting s.1 else setting_after None s.1

-- ---- a block

abbrev pub begins_begin : Token → Bool
begins_begin t = is (Word (codes "begin")) t || is (Word (codes "start")) t

abbrev pub begins_end : Token → Bool
begins_end t = is_some (end_word t)

-- a statement, by its first word
unfoldable pub other_form : List Placed → Read Statement
other_form ts =
    if begins_begin (first ts).token then begin ts
    else (if begins_end (first ts).token then ends ts
    else (if at (Word (codes "lock")) ts then lock ts
    else set ts))

unfoldable pub form : List Placed → Read Statement
form ts =
    if at (Word (codes "create")) ts then create ts
    else (if at (Word (codes "insert")) ts then insert ts
    else (if at (Key (codes "select")) ts then select ts
    else (if at (Word (codes "update")) ts then update ts
    else (if at (Word (codes "delete")) ts then delete ts
    else other_form ts))))

abbrev pub begins_form : Token → Bool
begins_form t = is (Word (codes "create")) t || (is (Word (codes "insert")) t || (is (Key (codes "select")) t
    || (is (Word (codes "update")) t || (is (Word (codes "delete")) t
    || (begins_begin t || (begins_end t || (is (Word (codes "lock")) t || is (Key (codes "set")) t)))))))

abbrev pub refused : Token → Kind
refused NoToken = kind.BadToken
refused NotClosed = kind.Unclosed
refused t = kind.Syntax

-- the fault of a first token that begins no form
abbrev pub no_form : Token → Kind
no_form (Key w) = kind.Unsupported
no_form (Word w) = kind.Unsupported
no_form t = refused t

abbrev pub kind_of : Why → Token → Kind
kind_of CannotStand t = refused t
kind_of (Passes l) t = kind_of_limit l

abbrev pub fault_of : Stop → Fault
fault_of s = record { kind = kind_of s.why s.here.token; at = s.here.at }

abbrev pub told : {A : Type 0} → Result A Stop → Result A Fault
told (Ok x) = Ok x
told (Err s) = Err (fault_of s)

abbrev pub statement : List Placed → Result (Statement × List Placed) Fault
statement ts =
    if begins_form (first ts).token then told (form ts)
    else Err (record { kind = no_form (first ts).token; at = (first ts).at })

-- a statement, or none before a semicolon or the end
abbrev pub maybe_statement : List Placed → Result (Option Statement × List Placed) Fault
maybe_statement ts = if inside (first ts).token then and_then (statement ts) (λ s. Ok (Some s.0, s.1)) else Ok (None, ts)

-- a block, of no more than n statements
abbrev pub block_of : ℕ → List Placed → Result Block Fault
block_of zero ts = Err (record { kind = kind.Syntax; at = (first ts).at })
block_of (suc n) ts =
    and_then (maybe_statement ts) (λ s.
    if at (Sign (codes ";")) s.1 then and_then (block_of n (rest s.1)) (λ b. Ok (More s.0 b))
    else (if at End s.1 then Ok (Last s.0)
    else Err (record { kind = refused (first s.1).token; at = (first s.1).at })))

-- the tree of a block, or its fault
abbrev pub block : List Placed → Result Block Fault
block ts = block_of (suc (length ts)) ts
