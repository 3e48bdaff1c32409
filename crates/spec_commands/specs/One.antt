-- What the program writes for one permutation.
use Rattle.std.specs.Prelude.{◌≡◌, ℕ, ◌<◌, ◌≤◌, ◌++◌, List, Option, Some, Result, Ok, Err, ⊤}
use Rattle.bound_specs.specs.Spec.{SpecFile, ranks, line_of}
use Rattle.bound_specs.specs.Binding.{IsFileOf}
use Rattle.events.specs.declared.event.Event.{Event}
use Rattle.transcripts.specs.Counted.{Wrote, Stopped}
use Rattle.transcripts.specs.Text.{rank_text, outcome_text}
use Rattle.transcripts.specs.declared.counted.Counted.{Counted}
use Rattle.machine_model.specs.Start.{start}
use Rattle.machine_model.specs.Outcome.{outcome_of_line}
use Rattle.session_machine.specs.Running.{IsNotRunBy}
use Rattle.spec_commands.specs.declared.single.OneFault.{OneFault}
use Rattle.spec_commands.specs.declared.single.OneFault.TheVariants.{Spec, OutOfRange, Run, Write}
use Rattle.spec_binding.specs.SpecFiles.{IsNoSpec}

-- the text tells the rank and then the outcome of its line, by the sequential machine
pub record IsAnswer (file : SpecFile) (rank : ℕ) (text : List ℕ) : Type 0 where
  pub rank_is : rank < ranks file.run
  pub outcome : List (List Event)
  pub outcome_is : outcome_of_line file.run (line_of file.run rank) ≡ Some outcome
  pub text_is : text ≡ rank_text rank ++ outcome_text file.session_names file.step_names outcome

-- why one permutation of a spec is not written: its rank is no rank, or its line is not run, or a write fails
abbrev pub IsRefused : OneFault → SpecFile → ℕ → Type 0
IsRefused (Spec fault) file rank = ⊥
IsRefused OutOfRange file rank = ranks file.run ≤ rank
IsRefused (Run error) file rank = (rank < ranks file.run) × IsNotRunBy error (start file.run)
IsRefused (Write fault) file rank = rank < ranks file.run

-- how many writes fail in a call with this answer
abbrev pub faults_of : {X : Type 0} → Result X OneFault → ℕ
faults_of (Ok x) = 0
faults_of (Err (Spec fault)) = 0
faults_of (Err OutOfRange) = 0
faults_of (Err (Run error)) = 0
faults_of (Err (Write fault)) = 1

-- the text is the answer of the spec file that the bytes are
pub record IsAnswerOf (bytes : List ℕ) (rank : ℕ) (text : List ℕ) : Type 0 where
  pub file : SpecFile
  pub is_file : IsFileOf bytes file
  pub answer : IsAnswer file rank text

-- why the bytes have no answer: they are no spec file, or the one permutation is not written
abbrev pub IsRefusedOf : OneFault → List ℕ → ℕ → Type 0
IsRefusedOf (Spec fault) bytes rank = IsNoSpec bytes fault
IsRefusedOf OutOfRange bytes rank = (file : SpecFile) × IsFileOf bytes file × IsRefused OutOfRange file rank
IsRefusedOf (Run error) bytes rank = (file : SpecFile) × IsFileOf bytes file × IsRefused (Run error) file rank
IsRefusedOf (Write fault) bytes rank = (file : SpecFile) × IsFileOf bytes file × IsRefused (Write fault) file rank

-- what a refusal leaves in the writer: it is as it was, but where a write fails it has a front of such a text
abbrev pub Leaves : {W : Type 0} → (W → Option (List ℕ)) → (List ℕ → Type 0) → Counted W → Counted W → OneFault → Type 0
Leaves contents IsText old new (Spec fault) = new ≡ old
Leaves contents IsText old new OutOfRange = new ≡ old
Leaves contents IsText old new (Run error) = new ≡ old
Leaves contents IsText old new (Write fault) = (text : List ℕ) × IsText text × Stopped contents old new text

-- all of it: the answer of the bytes is written, or a refusal is returned with what it leaves
abbrev pub IsOneRun : {W : Type 0} → (W → Option (List ℕ)) → Counted W → Counted W → List ℕ → ℕ → Result ⊤ OneFault → Type 0
IsOneRun contents old new bytes rank (Ok done) = (text : List ℕ) × IsAnswerOf bytes rank text × Wrote contents old new text
IsOneRun contents old new bytes rank (Err fault) = IsRefusedOf fault bytes rank × Leaves contents (IsAnswerOf bytes rank) old new fault
