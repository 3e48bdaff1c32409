-- A spec at a level is as ready, and fits its tables, as it is where it is written.
use Rattle.std.proofs.Common.{◌≡◌, refl, sym, ap, subst, ◌∙◌, ℕ, zero, suc, ◌≤◌, cond, List, [], ◌∷◌, length, map, All, get_or, Option}
use Rattle.std.specs.Prelude.{◌==◌}
use Rattle.std.proofs.lemmas.List.{length-map}
use Rattle.std.proofs.lemmas.List.Elements.{All-map}
use Rattle.bound_statements.specs.Plan.{HasKeys, IsShort}
use Rattle.bound_statements.specs.Levels.{levelled}
use Rattle.bound_statements.specs.declared.statement.Bound.{Bound}
use Rattle.bound_statements.specs.declared.statement.Bound.TheVariants.{Select, Insert, Update, Delete, Begin, Commit, Rollback, Lock, SetVariable}
use Rattle.bound_statements.specs.declared.statement.Level.{Level}
use Rattle.binding_model.specs.declared.tables.Table.{Table}
use Rattle.bound_specs.specs.Fits.{Fits, SpecFits}
use Rattle.bound_specs.specs.Levels.{levelled_block, levelled_step, levelled_run, levelled_file}
use Rattle.bound_specs.specs.Spec.{Step, Spec, SpecFile, steps_of, queues_from, queues_of, step_limit, IsLine, IsStep, IsReady}

-- ---- one statement

keys-levelled : (a : Option Level) (st : Bound) → HasKeys st → HasKeys (levelled a st)
keys-levelled a (Select t key c by out lock) h = h
keys-levelled a (Insert t key rows) h = h
keys-levelled a (Update t key sets c) h = h
keys-levelled a (Delete t key c) h = h
keys-levelled a (Lock t m n) h = h
keys-levelled a (Begin named) h = h
keys-levelled a Commit h = h
keys-levelled a Rollback h = h
keys-levelled a SetVariable h = h

short-levelled : (a : Option Level) (st : Bound) → IsShort st → IsShort (levelled a st)
short-levelled a (Select t key c by out lock) h = h
short-levelled a (Insert t key rows) h = h
short-levelled a (Update t key sets c) h = h
short-levelled a (Delete t key c) h = h
short-levelled a (Lock t m n) h = h
short-levelled a (Begin named) h = h
short-levelled a Commit h = h
short-levelled a Rollback h = h
short-levelled a SetVariable h = h

fits-levelled : (tables : List Table) (a : Option Level) (st : Bound) → Fits tables st → Fits tables (levelled a st)
fits-levelled tables a (Select t key c by out lock) h = h
fits-levelled tables a (Insert t key rows) h = h
fits-levelled tables a (Update t key sets c) h = h
fits-levelled tables a (Delete t key c) h = h
fits-levelled tables a (Lock t m n) h = h
fits-levelled tables a (Begin named) h = h
fits-levelled tables a Commit h = h
fits-levelled tables a Rollback h = h
fits-levelled tables a SetVariable h = h

-- ---- statements, blocks and steps

module _ (P : Bound → Type 0) (a : Option Level) (keeps : (st : Bound) → P st → P (levelled a st)) where
  block-levelled : (ss : List Bound) → All P ss → All P (levelled_block a ss)
  block-levelled ss h = All-map P (levelled a) ss (λ i d lt. keeps (get_or ss i d) (h i d lt))

  blocks-levelled : (bs : List (List Bound)) → All (All P) bs → All (All P) (map (levelled_block a) bs)
  blocks-levelled bs h = All-map (All P) (levelled_block a) bs (λ i d lt. block-levelled (get_or bs i d) (h i d lt))

step-levelled : (n : ℕ) (a : Option Level) (s : Step) → IsStep n s → IsStep n (levelled_step a s)
step-levelled n a s is = record {
  session = is.session;
  keys = block-levelled HasKeys a (keys-levelled a) s.statements is.keys;
  short = block-levelled IsShort a (short-levelled a) s.statements is.short;
}

-- ---- which session sends what

steps-levelled : (a : Option Level) (i k : ℕ) (ss : List Step) → steps_of i k (map (levelled_step a) ss) ≡ steps_of i k ss
steps-levelled a i k [] = refl
steps-levelled a i k (s ∷ ss) = ap (λ ks. cond (s.session == i) (k ∷ ks) ks) (steps-levelled a i (suc k) ss)

queues-levelled : (a : Option Level) (i n : ℕ) (ss : List Step) → queues_from i n (map (levelled_step a) ss) ≡ queues_from i n ss
queues-levelled a i zero ss = refl
queues-levelled a i (suc n) ss = λ t. steps-levelled a i 0 ss t ∷ queues-levelled a (suc i) n ss t

pub run-queues : (a : Option Level) (run : Spec) → queues_of (levelled_run a run) ≡ queues_of run
run-queues a run = queues-levelled a 0 run.sessions run.steps

-- ---- the file

pub ready-levelled : (a : Option Level) (file : SpecFile) → IsReady file → IsReady (levelled_file a file)
ready-levelled a file is =
    let run = file.run in
    let steps : length (map (levelled_step a) run.steps) ≡ length run.steps = length-map run.steps (levelled_step a) in
    record {
      few_sessions = is.few_sessions;
      few_steps = subst (λ n. n ≤ step_limit run.lines) (sym steps) is.few_steps;
      few_lines = is.few_lines;
      session_names = is.session_names;
      step_names = is.step_names ∙ sym steps;
      session_setups = length-map run.session_setups (levelled_block a) ∙ is.session_setups;
      steps = All-map (IsStep run.sessions) (levelled_step a) run.steps (λ i d lt. step-levelled run.sessions a (get_or run.steps i d) (is.steps i d lt));
      setups_keys = blocks-levelled HasKeys a (keys-levelled a) run.setups is.setups_keys;
      setups_short = blocks-levelled IsShort a (short-levelled a) run.setups is.setups_short;
      session_setups_keys = blocks-levelled HasKeys a (keys-levelled a) run.session_setups is.session_setups_keys;
      session_setups_short = blocks-levelled IsShort a (short-levelled a) run.session_setups is.session_setups_short;
      lines = subst (λ n. All (IsLine n) run.lines) (sym steps) is.lines;
    }

pub fit-levelled : (tables : List Table) (a : Option Level) (run : Spec) → SpecFits tables run → SpecFits tables (levelled_run a run)
fit-levelled tables a run fits = record {
  setups = blocks-levelled (Fits tables) a (fits-levelled tables a) run.setups fits.setups;
  session_setups = blocks-levelled (Fits tables) a (fits-levelled tables a) run.session_setups fits.session_setups;
  steps = All-map (λ (s : Step). All (Fits tables) s.statements) (levelled_step a) run.steps
      (λ i d lt. block-levelled (Fits tables) a (fits-levelled tables a) (get_or run.steps i d).statements (fits.steps i d lt));
}
