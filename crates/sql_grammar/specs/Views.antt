-- What contracts see of what is read: the tree of the grammar, and the tokens behind it.
use Rattle.std.specs.Prelude.{◌≡◌, ◌<◌, length, List, [], ◌∷◌, Option, Some, None, Result, Ok, Err, ⊤}
use Rattle.sql_grammar.specs.declared.error.Stop.{Stop as Stopped}
use Rattle.sql_grammar.specs.declared.error.Stop.TheVariants as stop
use Rattle.sql_grammar.specs.declared.expression.Atom.{Atom as WrittenAtom, fold-Atom}
use Rattle.sql_grammar.specs.declared.expression.Atom.TheOpen.{Atom-F, Part-F, Condition-F}
use Rattle.sql_grammar.specs.declared.expression.Chain.{Chain as WrittenChain}
use Rattle.sql_grammar.specs.declared.expression.Condition.{Condition as WrittenCondition, fold-Condition}
use Rattle.sql_grammar.specs.declared.expression.Part.{Part as WrittenPart, fold-Part}
use Rattle.sql_grammar.specs.declared.expression.Sum.{Sum as WrittenSum}
use Rattle.sql_grammar.specs.declared.statement.Assignment.{Assignment as WrittenAssignment}
use Rattle.sql_grammar.specs.declared.statement.Begin.{Begin as WrittenBegin}
use Rattle.sql_grammar.specs.declared.statement.CreateTable.{CreateTable as WrittenCreate}
use Rattle.sql_grammar.specs.declared.statement.Delete.{Delete as WrittenDelete}
use Rattle.sql_grammar.specs.declared.statement.End.{End as WrittenEnd}
use Rattle.sql_grammar.specs.declared.statement.Form.{Form}
use Rattle.sql_grammar.specs.declared.statement.Form.TheVariants as form
use Rattle.sql_grammar.specs.declared.statement.Insert.{Insert as WrittenInsert}
use Rattle.sql_grammar.specs.declared.statement.TableLock.{TableLock as WrittenLock}
use Rattle.sql_grammar.specs.declared.statement.Select.{Select as WrittenSelect}
use Rattle.sql_grammar.specs.declared.statement.Selected.{Selected}
use Rattle.sql_grammar.specs.declared.statement.Selected.TheVariants as selected
use Rattle.sql_grammar.specs.declared.statement.Update.{Update as WrittenUpdate}
use Rattle.sql_grammar.specs.Tree.{Chain, Last, More, Sum, Only, Then, Condition, Alone, Or, Part, Single, And, Atom, Compares, Not, Group, Items, AllColumns, Columns, Aggregates, LockOf, Assignment, Statement, CreateTable, Insert, Selects, Update, Delete, Begin, Ends, Lock, Set}
use Rattle.sql_grammar.specs.Tokens.{Token}
use Rattle.sql_grammar.specs.Lexing.{WrittenAt, view, views}
use Rattle.sql_grammar.specs.Reading.{Stop, first, rest}

-- ---- lists of one or more

-- a first item, and more, each behind a separator
abbrev pub joined : {A S L X : Type 0} → (A → L) → (A → S → L → L) → (X → S) → (X → A) → A → List X → L
joined last more sep item a [] = last a
joined last more sep item a (x ∷ xs) = more a (sep x) (joined last more sep item (item x) xs)

abbrev pub chain_by : {A B : Type 0} → (A → B) → WrittenChain A → Chain B
chain_by f c = joined Last (λ a u l. More a l) (λ x. tt {0}) f (f c.first) c.more

abbrev pub chain_of : {A : Type 0} → WrittenChain A → Chain A
chain_of c = chain_by (λ x. x) c

abbrev pub option_by : {A B : Type 0} → (A → B) → Option A → Option B
option_by f None = None
option_by f (Some x) = Some (f x)

-- ---- expressions and conditions

abbrev pub view_sum : WrittenSum → Sum
view_sum s = joined Only Then (λ t. t.sign) (λ t. chain_of t.term) (chain_of s.first) s.more

abbrev pub part_by : {X : Type 0} → (X → Atom) → Atom → List X → Part
part_by f a xs = joined Single (λ b u l. And b l) (λ x. tt {0}) f a xs

abbrev pub condition_by : {X : Type 0} → (X → Part) → Part → List X → Condition
condition_by f p xs = joined Alone (λ q u l. Or q l) (λ x. tt {0}) f p xs

abbrev pub atom_step : Atom-F Atom Condition Part → Atom
atom_step (Atom-F.Compares a c b) = Compares (view_sum a) c (view_sum b)
atom_step (Atom-F.Not a) = Not a
atom_step (Atom-F.Group c) = Group c

abbrev pub part_step : Part-F Atom Condition Part → Part
part_step p = part_by (λ a. a) p.first p.more

abbrev pub condition_step : Condition-F Atom Condition Part → Condition
condition_step c = condition_by (λ p. p) c.first c.more

unfoldable pub view_atom : WrittenAtom → Atom
view_atom = fold-Atom Atom Condition Part atom_step condition_step part_step

unfoldable pub view_part : WrittenPart → Part
view_part = fold-Part Atom Condition Part atom_step condition_step part_step

unfoldable pub view_condition : WrittenCondition → Condition
view_condition = fold-Condition Atom Condition Part atom_step condition_step part_step

-- ---- statements

abbrev pub view_selected : Selected → Items
view_selected (selected.All l) = AllColumns
view_selected (selected.Columns c l) = Columns (chain_of c)
view_selected (selected.Aggregates a) = Aggregates (chain_of a)

abbrev pub view_lock_of : (s : Selected) → LockOf (view_selected s)
view_lock_of (selected.All l) = l
view_lock_of (selected.Columns c l) = l
view_lock_of (selected.Aggregates a) = tt

abbrev pub view_assignment : WrittenAssignment → Assignment
view_assignment a = record { column = a.column; value = view_sum a.value }

abbrev pub view_create : WrittenCreate → Statement
view_create c = CreateTable c.table (chain_of c.parts)

abbrev pub view_insert : WrittenInsert → Statement
view_insert i = Insert i.table (option_by chain_of i.columns) (chain_by chain_of i.rows)

abbrev pub view_select : WrittenSelect → Statement
view_select s = Selects
    (record { items = view_selected s.items; table = s.table; where' = option_by view_condition s.condition; order = option_by chain_of s.order; lock = view_lock_of s.items })

abbrev pub view_update : WrittenUpdate → Statement
view_update u = Update u.table (chain_by view_assignment u.assignments) (option_by view_condition u.condition)

abbrev pub view_delete : WrittenDelete → Statement
view_delete d = Delete d.table (option_by view_condition d.condition)

abbrev pub view_begin : WrittenBegin → Statement
view_begin b = Begin b.start b.level

abbrev pub view_end : WrittenEnd → Statement
view_end e = Ends e.word e.noise

abbrev pub view_lock : WrittenLock → Statement
view_lock l = Lock l.table_word l.table l.mode l.nowait

abbrev pub view_form : Form → Statement
view_form (form.CreateTable c) = view_create c
view_form (form.Insert i) = view_insert i
view_form (form.Select s) = view_select s
view_form (form.Update u) = view_update u
view_form (form.Delete d) = view_delete d
view_form (form.Begin b) = view_begin b
view_form (form.End e) = view_end e
view_form (form.Lock l) = view_lock l
view_form (form.Set s) = Set s

-- ---- what the code answers

-- The reading stops here, unless memory ran out.
abbrev pub Refuses : {A : Type 0} → Stopped → Result A Stop → Type 0
Refuses stop.Memory read = ⊤
Refuses (stop.At why here) read = read ≡ Err (record { why = why; here = view here })

-- A function gives what the reading gives, unless memory ran out.
abbrev pub Gives : {X A : Type 0} → (X → A) → Result X Stopped → Result A Stop → Type 0
Gives seen (Ok x) read = read ≡ Ok (seen x)
Gives seen (Err e) read = Refuses e read

-- A separator stands first, and these are the tokens behind it.
pub record Passed {S : Type 0} (sep : Token → Option S) (s : S) (tokens after : List WrittenAt) : Type 0 where
  pub found : sep (first (views tokens)).token ≡ Some s
  pub rest : views after ≡ rest (views tokens)
  pub shorter : length after < length tokens
