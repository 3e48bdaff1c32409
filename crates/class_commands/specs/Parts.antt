-- The parts of what is done for classes.
use Rattle.std.specs.Prelude.{◌≡◌, ℕ, cond, List, Option, Result, Ok, Err}
use Rattle.std.specs.List.{list_all}
use Rattle.binding_model.specs.declared.tables.Table.{Table}
use Rattle.bound_specs.specs.Spec.{SpecFile}
use Rattle.bound_statements.specs.declared.statement.Level.{Level as AtLevel}
use Rattle.machine_model.specs.Start.{start}
use Rattle.session_machine.specs.Running.{IsNotRunBy}
use Rattle.session_steps.specs.Refused.{IsRefusedBy}
use Rattle.schedule_counts.specs.declared.counting.StatesError.{StatesError}
use Rattle.schedule_counts.specs.declared.counting.StatesError.TheVariants as states
use Rattle.spec_binding.specs.SpecFiles.{IsNoSpec}
use Rattle.spec_levels.specs.Levelled.{IsLevelledSpec, IsWrongLevel}
use Rattle.spec_levels.specs.Levels.{AreLevels}
use Rattle.spec_levels.specs.declared.levels.Levels.{Levels}
use Rattle.spec_texts.specs.Texts.{Declares}
use Rattle.transcripts.specs.Counted.{Wrote, Stopped}
use Rattle.transcripts.specs.declared.counted.Counted.{Counted}
use Rattle.class_rows.specs.declared.rows.Classed.{Classed}
use Rattle.class_texts.specs.Expected.{Expectation, is_met}
use Rattle.wanted_classes.specs.declared.wanted.WantedClasses.{WantedClasses}
use Rattle.wanted_classes.specs.declared.wanted.WantedSample.{WantedSample}
use Rattle.asked_classes.specs.Asking.{IsAsked, IsRefused}
use Rattle.asked_classes.specs.declared.asking.AskedClasses.{AskedClasses}
use Rattle.book_commands.specs.declared.finding.Finding.{Finding}
use Rattle.book_commands.specs.declared.finding.Finding.TheVariants.{Good, Bad}
use Rattle.class_commands.specs.declared.asking.AskedSpec.{AskedSpec}
use Rattle.class_commands.specs.declared.asking.ReadSpec.{ReadSpec}
use Rattle.class_commands.specs.declared.classing.ClassesFault.{ClassesFault}
use Rattle.class_commands.specs.declared.classing.ClassesFault.TheVariants.{Spec, Level, Asked, Run, TooMany, NoMemory, Write}
use Rattle.class_commands.specs.Opened.{IsWrittenAs}
use Rattle.class_commands.specs.Classing.{MayHaveManyStates, IsNotAsked, page_of}

-- the spec file that the bytes are at the level of a word, with the tables that its main setups declare, and its levels
pub record IsReadSpec (bytes : List ℕ) (word : Option AtLevel) (r : ReadSpec) : Type 0 where
  pub is_file : IsLevelledSpec bytes word r.spec
  pub text : r.spec.text ≡ bytes
  pub declares : Declares r.spec.text r.spec r.tables.items
  pub are_levels : AreLevels r.spec.text r.spec r.levels

-- the bytes are no spec file; what it says of levels is wrong; or memory ran out
abbrev pub IsNotReadSpec : List ℕ → Option AtLevel → ClassesFault → Type 0
IsNotReadSpec bytes word (Spec fault) = IsNoSpec bytes fault
IsNotReadSpec bytes word (Level fault) = IsWrongLevel bytes word fault
IsNotReadSpec bytes word NoMemory = Unit {0}
IsNotReadSpec bytes word fault = ⊥

-- the spec file that the bytes are at the level that is wanted, with the tables that its main setups declare, its levels, and what is asked of it
pub record IsAskedSpec (bytes : List ℕ) (wanted : WantedClasses) (a : AskedSpec) : Type 0 where
  pub is_file : IsLevelledSpec bytes wanted.level a.spec
  pub text : a.spec.text ≡ bytes
  pub declares : Declares a.spec.text a.spec a.tables.items
  pub are_levels : AreLevels a.spec.text a.spec a.levels
  pub is_asked : IsAsked a.spec a.tables.items wanted a.asked

-- the bytes are no spec file; what it says of levels is wrong; nothing is asked of it; or memory ran out
abbrev pub IsNotAskedSpec : List ℕ → WantedClasses → ClassesFault → Type 0
IsNotAskedSpec bytes wanted (Spec fault) = IsNoSpec bytes fault
IsNotAskedSpec bytes wanted (Level fault) = IsWrongLevel bytes wanted.level fault
IsNotAskedSpec bytes wanted (Asked fault) = IsNotAsked bytes wanted (λ file tables. IsRefused file tables wanted fault)
IsNotAskedSpec bytes wanted NoMemory = Unit {0}
IsNotAskedSpec bytes wanted fault = ⊥

-- why the orders of a spec are not counted: it does not start, too many states are told, or memory ran out
abbrev pub IsNotCounted : Option WantedSample → SpecFile → StatesError → Type 0
IsNotCounted sample file (states.Start error) = IsRefusedBy error (start file.run)
IsNotCounted sample file (states.TooMany noted) = MayHaveManyStates sample file
IsNotCounted sample file states.Memory = Unit {0}

-- why nothing is found of the orders of a spec: it does not start, too many states are told, or memory ran out
abbrev pub IsNotFound : Option WantedSample → SpecFile → ClassesFault → Type 0
IsNotFound sample file (Run error) = IsNotRunBy error (start file.run)
IsNotFound sample file (TooMany noted) = MayHaveManyStates sample file
IsNotFound sample file NoMemory = Unit {0}
IsNotFound sample file fault = ⊥

-- the text is the page of what is found
abbrev pub IsTextOf : List ℕ → SpecFile → List Table → Levels → WantedClasses → AskedClasses → Classed → List ℕ → Type 0
IsTextOf path file tables levels wanted asked x text = IsWrittenAs wanted.form file.text file (page_of path file tables levels wanted asked x) text

-- such a text is written and such a finding told; or a front of it is written, or nothing for want of memory
abbrev pub Writes : {W : Type 0} → (W → Option (List ℕ)) → Counted W → Counted W → (List ℕ → Type 0) → (Finding → Type 0) → Result Finding ClassesFault → Type 0
Writes contents old new IsText Finds (Ok finding) = ((text : List ℕ) × IsText text × Wrote contents old new text) × Finds finding
Writes contents old new IsText Finds (Err (Write fault)) = (text : List ℕ) × IsText text × Stopped contents old new text
Writes contents old new IsText Finds (Err NoMemory) = new ≡ old
Writes contents old new IsText Finds (Err fault) = ⊥

-- by what each SELECT sees of each class
abbrev pub finding_by : List Expectation → Finding
finding_by expectations = cond (list_all is_met expectations) Good Bad
