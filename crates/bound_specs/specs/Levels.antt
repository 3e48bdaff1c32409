-- A spec where levels are asked for, and where they are not.
use Rattle.std.specs.Prelude.{List, map, Option, All}
use Rattle.bound_statements.specs.declared.statement.Bound.{Bound}
use Rattle.bound_statements.specs.declared.statement.Level.{Level}
use Rattle.bound_statements.specs.Levels.{levelled, AsksAlways}
use Rattle.bound_specs.specs.Spec.{Step, Spec, SpecFile}

abbrev pub levelled_block : Option Level → List Bound → List Bound
levelled_block asked statements = map (levelled asked) statements

abbrev pub levelled_step : Option Level → Step → Step
levelled_step asked s = record { session = s.session; statements = levelled_block asked s.statements }

-- each statement of the spec as it is written, where this is asked for
abbrev pub levelled_run : Option Level → Spec → Spec
levelled_run asked run = record {
  sessions = run.sessions;
  steps = map (levelled_step asked) run.steps;
  setups = map (levelled_block asked) run.setups;
  session_setups = map (levelled_block asked) run.session_setups;
  lines = run.lines;
}

abbrev pub levelled_file : Option Level → SpecFile → SpecFile
levelled_file asked file = record {
  text = file.text;
  session_names = file.session_names;
  step_names = file.step_names;
  asked = asked;
  run = levelled_run asked file.run;
}

-- each statement of the spec asks for its whole plan, whatever the level of its transaction
pub record AskAlways (run : Spec) : Type 0 where
  pub setups : All (All AsksAlways) run.setups
  pub session_setups : All (All AsksAlways) run.session_setups
  pub steps : All (λ (s : Step). All AsksAlways s.statements) run.steps
