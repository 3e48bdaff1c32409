-- Which SELECT a text is, bound over tables, and why it is none.
use Rattle.std.specs.Prelude.{◌≡◌, ℕ, Bool, true, false, List, [], ◌∷◌, Result, Ok, Err, ⊤, if◌then◌else◌}
use Rattle.sql_grammar.specs.Tree as tree
use Rattle.sql_grammar.specs.Grammar.{Fault, FirstFault}
use Rattle.sql_grammar.specs.Lexing.{token_list}
use Rattle.sql_grammar.specs.Text.{StatementAt, IsSpelled, fault_of_error}
use Rattle.bound_statements.specs.declared.statement.Bound.{Bound}
use Rattle.binding_model.specs.Refusals.{Bind}
use Rattle.binding_model.specs.Statements.{statement}
use Rattle.binding_model.specs.declared.tables.Table.{Table}
use Rattle.bound_specs.specs.Binding.{read_text}
use Rattle.class_looks.specs.declared.fault.LookFault.{LookFault}
use Rattle.class_looks.specs.declared.fault.LookFault.TheVariants.{Sql, NotOneSelect, Binding, NoMemory}

-- ---- by the grammar

-- the text spells one statement alone, this SELECT at this byte
abbrev pub SpellsSelect : List ℕ → ℕ → tree.Select → Type 0
SpellsSelect text at select = IsSpelled text ((at, tree.Selects select) ∷ [])

-- one statement alone, and that a SELECT
abbrev pub IsOneSelect : List StatementAt → Type 0
IsOneSelect ss = (at : ℕ) × (select : tree.Select) × (ss ≡ (at, tree.Selects select) ∷ [])

-- the text spells one SELECT alone, which binds to this over the tables
pub record IsLookOf (tables : List Table) (text : List ℕ) (st : Bound) : Type 0 where
  pub at : ℕ
  pub select : tree.Select
  pub spelled : SpellsSelect text at select
  pub bound : statement tables at (tree.Selects select) ≡ Ok st

-- why it does not: the first fault of its SQL, other statements than one SELECT, or the first refusal of binding
abbrev pub IsNoLook : List Table → List ℕ → LookFault → Type 0
IsNoLook tables text (Sql e) = FirstFault (token_list text) (fault_of_error e)
IsNoLook tables text NotOneSelect = (ss : List StatementAt) × IsSpelled text ss × (IsOneSelect ss → ⊥)
IsNoLook tables text (Binding e) =
    (at : ℕ) × (select : tree.Select) × SpellsSelect text at select × (statement tables at (tree.Selects select) ≡ Err e)
IsNoLook tables text NoMemory = ⊥

-- ---- as blocks of a spec file are read

-- the text's statements, or the first fault of its SQL
abbrev pub told_sql : Result (List StatementAt) Fault → Result (List StatementAt) LookFault
told_sql (Ok ss) = Ok ss
told_sql (Err f) = Err (Sql (record { kind = f.kind; offset = f.at }))

abbrev pub is_select : tree.Statement → Bool
is_select (tree.CreateTable n ps) = false
is_select (tree.Insert n names rows) = false
is_select (tree.Selects s) = true
is_select (tree.Update n sets c) = false
is_select (tree.Delete n c) = false
is_select (tree.Begin start level) = false
is_select (tree.Ends word noise) = false
is_select (tree.Lock word n mode nowait) = false
is_select (tree.Set setting) = false

abbrev pub told_bound : Bind Bound → Result Bound LookFault
told_bound (Ok st) = Ok st
told_bound (Err e) = Err (Binding e)

-- bound as a statement of a step is, if it is a SELECT
abbrev pub bound_one : List Table → StatementAt → Result Bound LookFault
bound_one tables s = if is_select s.1 then told_bound (statement tables s.0 s.1) else Err NotOneSelect

-- if it is alone
abbrev pub bound_alone : List Table → List StatementAt → Result Bound LookFault
bound_alone tables [] = Err NotOneSelect
bound_alone tables (s ∷ []) = bound_one tables s
bound_alone tables (s ∷ t ∷ ss) = Err NotOneSelect

abbrev pub then_bound : List Table → Result (List StatementAt) LookFault → Result Bound LookFault
then_bound tables (Ok ss) = bound_alone tables ss
then_bound tables (Err f) = Err f

-- the SELECT that a text is, or why it is none: it is read whole before it is looked at
abbrev pub look_of : List Table → List ℕ → Result Bound LookFault
look_of tables text = then_bound tables (told_sql (read_text text))

-- a function gives it, or the fault, unless memory ran out
abbrev pub Finds : {X Y : Type 0} → (X → Y) → Result X LookFault → Result Y LookFault → Type 0
Finds view (Ok x) found = found ≡ Ok (view x)
Finds view (Err NoMemory) found = ⊤
Finds view (Err (Sql e)) found = found ≡ Err (Sql e)
Finds view (Err NotOneSelect) found = found ≡ Err NotOneSelect
Finds view (Err (Binding e)) found = found ≡ Err (Binding e)
