-- Ranges of ranks, and what the program writes for one.
use Rattle.std.specs.Prelude.{◌≡◌, ℕ, ◌+◌, ◌<◌, ◌≤◌, ◌⊎◌, Bool, List, Option, Result, Ok, Err, ⊤}
use Rattle.bound_specs.specs.Spec.{Spec, SpecFile, ranks}
use Rattle.bound_specs.specs.Binding.{IsFileOf}
use Rattle.machine_model.specs.Start.{start}
use Rattle.session_machine.specs.Running.{IsNotRunBy}
use Rattle.session_machine.specs.declared.error.RunError.{RunError}
use Rattle.session_machine.specs.declared.error.RunError.TheVariants as run_error
use Rattle.transcripts.specs.declared.counted.Counted.{Counted}
use Rattle.step_reducer.specs.Walking.{Starts}
use Rattle.shard_farm.specs.declared.error.FarmError.{FarmError}
use Rattle.shard_farm.specs.declared.error.FarmError.TheVariants as farm_error
use Rattle.fact_books.specs.Books.{Contents}
use Rattle.fact_books.specs.Building.{AreFactsOf}
use Rattle.book_format.specs.Writing.{IsWritten}
use Rattle.spec_binding.specs.SpecFiles.{IsNoSpec}
use Rattle.spec_binding.specs.declared.spec.SpecFault.{SpecFault}
use Rattle.range_commands.specs.declared.ranges.RangeFault.{RangeFault}
use Rattle.range_commands.specs.declared.ranges.RangeFault.TheVariants as range_fault
use Rattle.range_commands.specs.declared.ranges.TheConstants.{MAX_RANGE}

-- the ranks from first up to but not end are of the spec, and not too many
pub record IsRangeOf (spec : Spec) (first end : ℕ) : Type 0 where
  pub order : first ≤ end
  pub inside : end ≤ ranks spec
  pub few : end ≤ first + MAX_RANGE

-- why these ranks are no range of the spec
abbrev pub IsOutsideRange : Spec → ℕ → ℕ → RunError → Type 0
IsOutsideRange spec first end run_error.OutOfRange = (end < first) ⊎ (ranks spec < end)
IsOutsideRange spec first end run_error.TooLong = (first ≤ end) × (end ≤ ranks spec) × (first + MAX_RANGE < end)
IsOutsideRange spec first end run_error.TooDeep = ⊥
IsOutsideRange spec first end run_error.NoMemory = ⊥
IsOutsideRange spec first end (run_error.Start error) = ⊥

-- why a range is not run: it is none of the spec, or else the spec does not start, unless memory ran out
abbrev pub IsNoRange : Spec → ℕ → ℕ → RunError → Type 0
IsNoRange spec first end error = IsOutsideRange spec first end error ⊎ (IsRangeOf spec first end × IsNotRunBy error (start spec))

-- the book of a range has exactly the facts of its ranks
pub record IsBookOfRange (file : SpecFile) (first end : ℕ) (reduce : Bool) (book : Contents) : Type 0 where
  pub lawful : IsRangeOf file.run first end
  pub started : Starts file.run
  pub file_is : book.file ≡ file
  pub facts : AreFactsOf reduce file.run first end book.facts

-- the text of the range's book is written, or a front of it; or nothing, where the bytes are no spec file, the range is refused, or its book is
abbrev pub IsRangeRun : {W : Type 0} → (W → Option (List ℕ)) → Counted W → Counted W → List ℕ → ℕ → ℕ → Bool → Result ⊤ RangeFault → Type 0
IsRangeRun contents old new bytes first end reduce (Ok done) =
    (file : SpecFile) × IsFileOf bytes file × ((book : Contents) × IsBookOfRange file first end reduce book × IsWritten contents old new book (Ok done))
IsRangeRun contents old new bytes first end reduce (Err (range_fault.Spec fault)) = (new ≡ old) × IsNoSpec bytes fault
IsRangeRun contents old new bytes first end reduce (Err (range_fault.Run error)) =
    (new ≡ old) × ((file : SpecFile) × IsFileOf bytes file × IsNoRange file.run first end error)
IsRangeRun contents old new bytes first end reduce (Err (range_fault.Write error)) =
    (file : SpecFile) × IsFileOf bytes file × ((book : Contents) × IsBookOfRange file first end reduce book × IsWritten contents old new book (Err error))

-- what is written for all ranks of a spec is what is written for the range from 0 up to their number; where the bytes are no spec file, nothing is
abbrev pub IsRunOfAll : {W : Type 0} → (W → Option (List ℕ)) → Counted W → Counted W → List ℕ → Bool → Result ⊤ RangeFault → Type 0
IsRunOfAll contents old new bytes reduce result =
    ((file : SpecFile) × IsFileOf bytes file × IsRangeRun contents old new bytes 0 (ranks file.run) reduce result)
    ⊎ ((fault : SpecFault) × IsNoSpec bytes fault × (result ≡ Err (range_fault.Spec fault)) × (new ≡ old))

-- ---- what the code keeps

-- the bytes are a spec file of so many ranks
abbrev pub IsNumberOfRanks : List ℕ → ℕ → Type 0
IsNumberOfRanks bytes n = (file : SpecFile) × IsFileOf bytes file × (n ≡ ranks file.run)

-- the plan that was refused is lawful: it does not start, or memory ran out
abbrev pub IsOfLawfulPlan : FarmError → Type 0
IsOfLawfulPlan farm_error.BadPlan = ⊥
IsOfLawfulPlan error = Unit {0}

-- what a run of shards is refused with, told as that of a range
abbrev pub IsToldOf : FarmError → RunError → Type 0
IsToldOf farm_error.BadPlan told = ⊥
IsToldOf (farm_error.Start error) told = told ≡ run_error.Start error
IsToldOf farm_error.NotStarted told = told ≡ run_error.NoMemory
IsToldOf (farm_error.NoMemory left) told = told ≡ run_error.NoMemory
