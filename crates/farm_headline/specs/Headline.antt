-- The headline: from the bytes of a spec to its report over a job and plans, and over books of any runs that a caller joins.
use Rattle.std.specs.Prelude.{◌≡◌, ◌↔◌, ℕ, ◌<◌, ◌⊎◌, true, List, length, Option, Result, Ok, Err, ⊤}
use Rattle.bound_specs.specs.Spec.{Spec, SpecFile, ranks}
use Rattle.bound_specs.specs.Binding.{IsFileOf}
use Rattle.rank_facts.specs.declared.fact.Fact.{Fact}
use Rattle.rank_facts.specs.Values.{AllTrue, CoverEachRank}
use Rattle.step_reducer.specs.Walking.{Starts}
use Rattle.transcripts.specs.Counted.{Wrote, Stopped}
use Rattle.transcripts.specs.declared.counted.Counted.{Counted}
use Rattle.fact_books.specs.declared.error.ReportError.{ReportError}
use Rattle.fact_books.specs.declared.error.ReportError.TheVariants.{TooMany, Missing, Clash, NoMemory}
use Rattle.fact_books.specs.Entries.{recorded}
use Rattle.fact_books.specs.Books.{Contents, AllRecordable}
use Rattle.fact_books.specs.Values.{IsNotReported}
use Rattle.book_jobs.specs.declared.job.Job.{Job}
use Rattle.book_jobs.specs.JobTrees.{leaves}
use Rattle.book_jobs.specs.Jobs.{InLeaves, IsJobOf}
use Rattle.spec_binding.specs.SpecFiles.{IsNoSpec}
use Rattle.book_commands.specs.declared.reporting.ReportFault.TheVariants.{Report, Write}
use Rattle.book_commands.specs.Reporting.{IsReportText}
use Rattle.farm_headline.specs.declared.headline.Plan.{Plan}
use Rattle.farm_headline.specs.declared.headline.HeadlineFault.{HeadlineFault}
use Rattle.farm_headline.specs.declared.headline.HeadlineFault.TheVariants as fault_of
use Rattle.farm_headline.specs.Laws.{AreAnswers, AreSerial}
use Rattle.farm_headline.specs.Runs.{IsRun, HaveFact, ArePlansOf, IsNotRun, AnyRun, WasRunByOne, IsRunByOne}

-- the rank was run with that fact. Neither the place of a shard in the job's tree or among the plans, nor how often it is there, nor how many workers
-- run it, is part of it
abbrev pub WasRun : Spec → Job → List Plan → ℕ → Fact → Type 0
WasRun spec job plans r fact = InLeaves spec (leaves job) r fact ⊎ HaveFact spec plans r fact

-- the book holds exactly the facts of the ranks run
pub record HoldsTheRuns (file : SpecFile) (job : Job) (plans : List Plan) (book : Contents) : Type 0 where
  pub job_lawful : IsJobOf file.run job
  pub plans_lawful : ArePlansOf file.run plans (length plans)
  pub started : Starts file.run
  pub file_is : book.file ≡ file
  pub facts : (r : ℕ) (fact : Fact) → (recorded book.facts r fact ≡ true) ↔ WasRun file.run job plans r fact

-- the text is the report of a book of the runs, and tells of each rank what the sequential machine tells
pub record IsReportOfRuns (file : SpecFile) (job : Job) (plans : List Plan) (text : List ℕ) : Type 0 where
  pub book : Contents
  pub holds : HoldsTheRuns file job plans book
  pub reports : IsReportText book text
  pub answers : AreAnswers file (ranks file.run) text
  pub serial : AreSerial file.run

-- what is more to say of why a report is refused: a rank is missing only where it was not run, and two facts never tell different things of one
abbrev pub MayRefuse : (ℕ → Type 0) → ReportError → Type 0
MayRefuse was_run TooMany = Unit {0}
MayRefuse was_run (Missing r) = was_run r → ⊥
MayRefuse was_run (Clash r) = ⊥
MayRefuse was_run NoMemory = Unit {0}

-- what comes of runs: the report of their book is written, or a front of it, or nothing, where the bytes are no spec, or a job, a plan or the report is
-- refused, or memory ran out. Each call tells of that by its own refusal (the reader, binding, `make`, `farm_run` before its first shard and behind it,
-- `join`, `report`); the book of a plan that was cut short so has that plan's facts alone
abbrev pub AreRunsReported : {W : Type 0} → (W → Option (List ℕ)) → Counted W → Counted W → List ℕ → Job → List Plan → Result ⊤ HeadlineFault → Type 0
AreRunsReported contents old new bytes job plans (Ok done) =
    (file : SpecFile) × IsFileOf bytes file × ((text : List ℕ) × IsReportOfRuns file job plans text × Wrote contents old new text)
AreRunsReported contents old new bytes job plans (Err (fault_of.Spec fault)) = (new ≡ old) × IsNoSpec bytes fault
AreRunsReported contents old new bytes job plans (Err (fault_of.Report (Write fault))) =
    (file : SpecFile) × IsFileOf bytes file × ((text : List ℕ) × IsReportOfRuns file job plans text × Stopped contents old new text)
AreRunsReported contents old new bytes job plans (Err (fault_of.Report (Report error))) =
    (new ≡ old) × ((file : SpecFile) × IsFileOf bytes file
    × ((book : Contents) × HoldsTheRuns file job plans book × IsNotReported book error × MayRefuse (IsRun job plans) error))
AreRunsReported contents old new bytes job plans (Err (fault_of.Job error)) =
    (new ≡ old) × ((file : SpecFile) × IsFileOf bytes file × IsNotRun file job plans (fault_of.Job error))
AreRunsReported contents old new bytes job plans (Err (fault_of.Plan place error)) =
    (new ≡ old) × ((file : SpecFile) × IsFileOf bytes file × IsNotRun file job plans (fault_of.Plan place error))
AreRunsReported contents old new bytes job plans (Err fault_of.NoMemory) = new ≡ old

-- ---- books that a caller joins

-- the book holds exactly the facts of the ranks that all these runs have (`specs/Joins`: the book of one call does, and a join does of both its books)
pub record HoldsAllRuns (file : SpecFile) (runs : List AnyRun) (book : Contents) : Type 0 where
  pub file_is : book.file ≡ file
  pub facts : (r : ℕ) (fact : Fact) → (recorded book.facts r fact ≡ true) ↔ WasRunByOne file.run runs r fact

-- each fact of such a book is true
abbrev pub RunsAreTrue : Type 0
RunsAreTrue = (file : SpecFile) (runs : List AnyRun) (book : Contents) → HoldsAllRuns file runs book → AllTrue book.file.run (recorded book.facts)

-- it has a fact of each rank, where one of the runs has each
abbrev pub RunsCover : Type 0
RunsCover =
    (file : SpecFile) (runs : List AnyRun) (book : Contents) → HoldsAllRuns file runs book → Starts file.run
    → ((r : ℕ) → r < ranks file.run → IsRunByOne runs r) → CoverEachRank book.file.run (recorded book.facts)

-- where not each is run, the rank that a report is missing is none that was
abbrev pub NoRunIsMissing : Type 0
NoRunIsMissing =
    (file : SpecFile) (runs : List AnyRun) (book : Contents) (r : ℕ) → HoldsAllRuns file runs book → Starts file.run
    → AllRecordable book.file.run book.facts → IsNotReported book (Missing r) → IsRunByOne runs r → ⊥
