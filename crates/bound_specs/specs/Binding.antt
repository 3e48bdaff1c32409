-- What a spec file binds to: its spec, or the first refusal.
use Rattle.std.specs.Prelude.{◌≡◌, ℕ, suc, ◌+◌, ◌-◌, ◌^◌, min, List, [], ◌∷◌, ◌++◌, length, map, Option, Some, None, Result, Ok, Err}
use Rattle.spec_reader.specs.Tree.{BlockTree, StepTree, SessionTree, SpecTree}
use Rattle.spec_reader.specs.Text.{IsSpec}
use Rattle.sql_grammar.specs.Tree as tree
use Rattle.sql_grammar.specs.Grammar.{Fault}
use Rattle.sql_grammar.specs.Lexing.{token_list}
use Rattle.sql_grammar.specs.Text.{StatementAt, statements_from}
use Rattle.bound_statements.specs.declared.statement.Bound.{Bound}
use Rattle.bound_statements.specs.declared.statement.Level.{Level}
use Rattle.binding_model.specs.declared.error.BindErrorKind.TheVariants.{Sql, Shape}
use Rattle.binding_model.specs.declared.tables.Table.{Table}
use Rattle.bound_specs.specs.Lines.{step_names, session_names, orders_of}
use Rattle.binding_model.specs.Refusals.{Bind, ◌>>=◌, refuse, each}
use Rattle.bound_specs.specs.Levels.{levelled_file}
use Rattle.bound_specs.specs.Spec.{Step, SpecFile}
use Rattle.binding_model.specs.Statements.{statement}
use Rattle.binding_model.specs.Tables.{create}

-- ---- a block

-- the offset in the file of a place of a block that begins there; no file is so long that it is no usize
abbrev pub offset_in : ℕ → ℕ → ℕ
offset_in block at = min (block + at) (2 ^ 64 - 1)

-- the statements of a text
abbrev pub read_text : List ℕ → Result (List StatementAt) Fault
read_text text = statements_from (suc (length (token_list text))) (token_list text)

abbrev pub read_at : ℕ → Result (List StatementAt) Fault → Bind (List StatementAt)
read_at block (Ok ss) = Ok ss
read_at block (Err f) = refuse (offset_in block f.at) (Sql f.kind)

-- a block is read whole before its statements are looked at
abbrev pub read_block : BlockTree → Bind (List StatementAt)
read_block b = read_at b.at (read_text b.text)

abbrev pub statement_at : List Table → ℕ → StatementAt → Bind Bound
statement_at tables block s = statement tables (offset_in block s.0) s.1

abbrev pub bind_block : List Table → BlockTree → Bind (List Bound)
bind_block tables b = read_block b >>= λ ss. each (statement_at tables b.at) ss

abbrev pub session_setup : List Table → Option BlockTree → Bind (List Bound)
session_setup tables None = Ok []
session_setup tables (Some b) = bind_block tables b

abbrev pub step : List Table → StepTree → Bind (List Bound)
step tables s = bind_block tables s.block

-- a session's setup, and its steps
pub record BoundSession : Type 0 where
  pub setup : List Bound
  pub steps : List (List Bound)

abbrev pub session : List Table → SessionTree → Bind BoundSession
session tables s =
    session_setup tables s.head.setup >>= λ setup. (each (step tables) s.steps >>= λ steps. Ok (record { setup = setup; steps = steps }))

-- ---- the main setups, which declare the tables

abbrev pub then_more : {X : Type 0} → List X → Bind (List Table × List X) → Bind (List Table × List X)
then_more xs (Ok y) = Ok (y.0, xs ++ y.1)
then_more xs (Err e) = Err e

-- one after another, each with the tables that those before declared
abbrev pub declared : {A X : Type 0} → (List Table → A → Bind (List Table × List X)) → List Table → List A → Bind (List Table × List X)
declared f tables [] = Ok (tables, [])
declared f tables (a ∷ as') = f tables a >>= λ x. then_more x.1 (declared f x.0 as')

abbrev pub sent : List Table → Bind Bound → Bind (List Table × List Bound)
sent tables r = r >>= λ b. Ok (tables, b ∷ [])

-- the tables from then on, and what is sent
abbrev pub main_statement : List Table → ℕ → tree.Statement → Bind (List Table × List Bound)
main_statement tables at (tree.CreateTable n ps) = create tables at n ps >>= λ more. Ok (more, [])
main_statement tables at (tree.Insert n names rows) = sent tables (statement tables at (tree.Insert n names rows))
main_statement tables at (tree.Selects s) = sent tables (statement tables at (tree.Selects s))
main_statement tables at (tree.Update n as' c) = sent tables (statement tables at (tree.Update n as' c))
main_statement tables at (tree.Delete n c) = sent tables (statement tables at (tree.Delete n c))
main_statement tables at (tree.Begin start level) = sent tables (statement tables at (tree.Begin start level))
main_statement tables at (tree.Ends word noise) = sent tables (statement tables at (tree.Ends word noise))
main_statement tables at (tree.Lock word n mode nowait) = sent tables (statement tables at (tree.Lock word n mode nowait))
main_statement tables at (tree.Set setting) = sent tables (statement tables at (tree.Set setting))

abbrev pub main_at : ℕ → List Table → StatementAt → Bind (List Table × List Bound)
main_at block tables s = main_statement tables (offset_in block s.0) s.1

abbrev pub main_setup : List Table → BlockTree → Bind (List Table × List (List Bound))
main_setup tables b = read_block b >>= λ ss. (declared (main_at b.at) tables ss >>= λ x. Ok (x.0, x.1 ∷ []))

-- ---- a file

-- the steps of a session, and of sessions from one on
abbrev pub numbered : ℕ → List (List Bound) → List Step
numbered i blocks = map (λ (ss : List Bound). record { session = i; statements = ss }) blocks

abbrev pub all_steps : ℕ → List BoundSession → List Step
all_steps i [] = []
all_steps i (s ∷ ss) = numbered i s.steps ++ all_steps (suc i) ss

-- as it is written: what is asked for comes behind it
abbrev pub made_file : List ℕ → SpecTree → List (List ℕ) → List (List Bound) → List BoundSession → SpecFile
made_file text tree lines setups sessions = record {
  text = text;
  session_names = session_names tree.sessions;
  step_names = step_names tree.sessions;
  asked = None;
  run = record {
    sessions = length tree.sessions;
    steps = all_steps 0 sessions;
    setups = setups;
    session_setups = map (λ (s : BoundSession). s.setup) sessions;
    lines = lines;
  };
}

abbrev pub shaped : Option (List (List ℕ)) → Bind (List (List ℕ))
shaped None = refuse 0 Shape
shaped (Some lines) = Ok lines

-- a file of this text as it is written: its blocks are bound in the order of the file, the main setups, and then each session's setup and steps
abbrev pub written_file : List ℕ → SpecTree → Bind SpecFile
written_file text tree = do
  lines ← shaped (orders_of tree)
  main ← declared main_setup [] tree.front.setups
  sessions ← each (session main.0) tree.sessions
  Ok (made_file text tree lines main.1 sessions)

-- the file where this level is asked for, or none
abbrev pub bound_at : Option Level → List ℕ → SpecTree → Bind SpecFile
bound_at asked text tree = written_file text tree >>= λ file. Ok (levelled_file asked file)

-- the file where levels are not asked for
abbrev pub bound_file : List ℕ → SpecTree → Bind SpecFile
bound_file text tree = bound_at None text tree

-- the text is that of a spec file, which binds to this where its level is asked for, or none
pub record IsFileAt (text : List ℕ) (file : SpecFile) : Type 0 where
  pub tree : SpecTree
  pub is_spec : IsSpec text tree
  pub is_bound : bound_at file.asked text tree ≡ Ok file

-- the text is that of a spec file, which binds to this where levels are not asked for
pub record IsFileOf (text : List ℕ) (file : SpecFile) : Type 0 where
  pub tree : SpecTree
  pub is_spec : IsSpec text tree
  pub is_bound : bound_file text tree ≡ Ok file
