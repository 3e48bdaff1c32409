-- Two farms of one spec, whose books a caller joins and reports.
use Rattle.std.specs.Prelude.{◌≡◌, ◌⊎◌, ℕ, List, [], ◌∷◌, Option, Result, Ok, Err, ⊤}
use Rattle.bound_specs.specs.Spec.{SpecFile, ranks}
use Rattle.step_reducer.specs.Walking.{Starts}
use Rattle.transcripts.specs.Counted.{Wrote, Stopped}
use Rattle.transcripts.specs.declared.counted.Counted.{Counted}
use Rattle.fact_books.specs.Books.{Contents}
use Rattle.fact_books.specs.Values.{IsNotReported}
use Rattle.shard_board.specs.Changes.{IsPlanOf}
use Rattle.shard_farm.specs.Farming.{IsNotFarmed}
use Rattle.book_commands.specs.declared.reporting.ReportFault.TheVariants.{Report, Write}
use Rattle.book_commands.specs.Reporting.{IsReportText}
use Rattle.farm_headline.specs.declared.headline.Plan.{Plan}
use Rattle.farm_headline.specs.declared.headline.HeadlineFault.{HeadlineFault}
use Rattle.farm_headline.specs.declared.headline.HeadlineFault.TheVariants as fault_of
use Rattle.farm_headline.specs.Laws.{AreAnswers, AreSerial}
use Rattle.farm_headline.specs.Runs.{farms_of, IsRunByOne}
use Rattle.farm_headline.specs.Headline.{MayRefuse, HoldsAllRuns}

-- both plans are lawful, and the book holds exactly the facts of the ranks that both run
pub record HoldsBoth (file : SpecFile) (a b : Plan) (book : Contents) : Type 0 where
  pub first_lawful : IsPlanOf file.run a.shards.items a.workers
  pub second_lawful : IsPlanOf file.run b.shards.items b.workers
  pub started : Starts file.run
  pub holds : HoldsAllRuns file (farms_of (a ∷ b ∷ [])) book

-- the text is the report of such a book, and tells of each rank what the sequential machine tells, whose committed transactions are serial
pub record IsReportOfBoth (file : SpecFile) (a b : Plan) (text : List ℕ) : Type 0 where
  pub book : Contents
  pub both : HoldsBoth file a b book
  pub reports : IsReportText book text
  pub answers : AreAnswers file (ranks file.run) text
  pub serial : AreSerial file.run

-- the first plan is not run whole, or it is and the second one is not, unless memory ran out
abbrev pub IsOneRefused : SpecFile → Plan → Plan → HeadlineFault → Type 0
IsOneRefused file a b (fault_of.Plan place error) =
    ((place ≡ 0) × IsNotFarmed a.reduce file a.shards.items a.workers error)
    ⊎ ((place ≡ 1) × IsPlanOf file.run a.shards.items a.workers × Starts file.run × IsNotFarmed b.reduce file b.shards.items b.workers error)
IsOneRefused file a b fault_of.NoMemory = Unit {0}
IsOneRefused file a b (fault_of.Spec fault) = ⊥
IsOneRefused file a b (fault_of.Job error) = ⊥
IsOneRefused file a b (fault_of.Report fault) = ⊥

-- the book holds what both plans run, or one of them is not run whole, or memory ran out
abbrev pub AreFarmed : SpecFile → Plan → Plan → Result Contents HeadlineFault → Type 0
AreFarmed file a b (Ok book) = HoldsBoth file a b book
AreFarmed file a b (Err fault) = IsOneRefused file a b fault

-- the report of such a book is written, or a front of it; or nothing, where a plan or the report is refused, or memory ran out
abbrev pub AreFarmsReported : {W : Type 0} → (W → Option (List ℕ)) → Counted W → Counted W → SpecFile → Plan → Plan → Result ⊤ HeadlineFault → Type 0
AreFarmsReported contents old new file a b (Ok done) = (text : List ℕ) × IsReportOfBoth file a b text × Wrote contents old new text
AreFarmsReported contents old new file a b (Err (fault_of.Report (Write fault))) =
    (text : List ℕ) × IsReportOfBoth file a b text × Stopped contents old new text
AreFarmsReported contents old new file a b (Err (fault_of.Report (Report error))) =
    (new ≡ old) × ((book : Contents) × HoldsBoth file a b book × IsNotReported book error × MayRefuse (IsRunByOne (farms_of (a ∷ b ∷ []))) error)
AreFarmsReported contents old new file a b (Err (fault_of.Plan place error)) = (new ≡ old) × IsOneRefused file a b (fault_of.Plan place error)
AreFarmsReported contents old new file a b (Err fault_of.NoMemory) = new ≡ old
AreFarmsReported contents old new file a b (Err (fault_of.Spec fault)) = ⊥
AreFarmsReported contents old new file a b (Err (fault_of.Job error)) = ⊥
