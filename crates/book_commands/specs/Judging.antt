-- What the program writes for a report that is judged by accepted ones.
use Rattle.std.specs.Prelude.{◌≡◌, ℕ, zero, suc, ◌<◌, ◌++◌, Bool, true, false, List, [], length, codes, decimal, take, Option, Result, Ok, Err, slice_index_or}
use Rattle.std.specs.List.{AllZip}
use Rattle.bound_specs.specs.Spec.{SpecFile}
use Rattle.transcripts.specs.Counted.{Wrote, Stopped}
use Rattle.transcripts.specs.declared.counted.Counted.{Counted}
use Rattle.fact_books.specs.Entries.{Told}
use Rattle.fact_books.specs.Books.{Contents}
use Rattle.fact_books.specs.Values.{IsNotReported}
use Rattle.accepted_outputs.specs.Judging.{IsVerdict}
use Rattle.accepted_outputs.specs.declared.verdict.Verdict.{Verdict}
use Rattle.accepted_outputs.specs.declared.verdict.Verdict.TheVariants.{Matches, Differs}
use Rattle.transcripts.specs.Lines.{number_line}
use Rattle.book_commands.specs.declared.finding.Finding.{Finding}
use Rattle.book_commands.specs.declared.finding.Finding.TheVariants.{Good, Bad}
use Rattle.book_commands.specs.declared.judging.NoReport.{NoReport}
use Rattle.book_commands.specs.declared.judging.NoReport.TheVariants.{File, Report}
use Rattle.book_commands.specs.declared.judging.JudgeFault.{JudgeFault}
use Rattle.book_commands.specs.declared.judging.JudgeFault.TheVariants.{Book, Accepted, NoMemory, Write}
use Rattle.book_commands.specs.declared.judging.Judgement.{Judgement}
use Rattle.book_commands.specs.declared.nearest.Reported.{Reported}
use Rattle.book_commands.specs.Joining.{Files, IsFileBook, bytes_at}
use Rattle.book_commands.specs.Kept.{HasReport, IsKept, AreKept}
use Rattle.book_commands.specs.Nearest.{IsBeneath}

-- the answer is the report of the file's book, or why it has none
abbrev pub IsFileReport : Option (List ℕ) → Result (List Told) NoReport → Type 0
IsFileReport bytes (Ok report) = (book : Contents) × IsFileBook bytes (Ok book) × HasReport book report
IsFileReport bytes (Err (File fault)) = IsFileBook bytes (Err fault)
IsFileReport bytes (Err (Report error)) = (book : Contents) × IsFileBook bytes (Ok book) × IsNotReported book error

-- these are the reports of the files at some paths, in order
abbrev pub AreReports : Files → List (List ℕ) → List (List Told) → Type 0
AreReports files paths reports = AllZip (λ path report. IsFileReport (files path) (Ok report)) paths reports

-- the file at a path is judged so by those at the accepted paths
pub record IsVerdictOf (files : Files) (path : List ℕ) (accepted : List (List ℕ)) (verdict : Verdict) : Type 0 where
  pub report : List Told
  pub reports : List (List Told)
  pub is_report : IsFileReport (files path) (Ok report)
  pub are_reports : AreReports files accepted reports
  pub is_verdict : IsVerdict report reports verdict

-- the files at some paths are these books
abbrev pub AreBooks : Files → List (List ℕ) → List Contents → Type 0
AreBooks files paths books = AllZip (λ path book. IsFileBook (files path) (Ok book)) paths books

-- the file at a path is judged so by those at the accepted paths, and this text shows beneath it where it differs from the nearest of them
pub record IsShownOf (files : Files) (path : List ℕ) (accepted : List (List ℕ)) (verdict : Verdict) (text : List ℕ) : Type 0 where
  pub book : Contents
  pub is_book : IsFileBook (files path) (Ok book)
  pub report : List Told
  pub has_report : HasReport book report
  pub books : List Contents
  pub are_books : AreBooks files accepted books
  pub reports : List (List Told)
  pub have_reports : AllZip HasReport books reports
  pub is_verdict : IsVerdict report reports verdict
  pub is_beneath : IsBeneath book report books reports verdict text

-- why accepted files are not all reported: the first that gives no report, unless memory ran out
abbrev pub IsNotAccepted : Files → List (List ℕ) → JudgeFault → Type 0
IsNotAccepted files paths (Book fault) = ⊥
IsNotAccepted files paths (Accepted place fault) =
    (place < length paths) × ((reports : List (List Told)) × AreReports files (take place paths) reports) × IsFileReport (bytes_at files paths place)
    (Err fault)
IsNotAccepted files paths NoMemory = Unit {0}
IsNotAccepted files paths (Write fault) = ⊥

-- why there is no verdict: the first file that gives no report, that of the judged book before the accepted ones, unless memory ran out
abbrev pub IsNotJudged : Files → List ℕ → List (List ℕ) → JudgeFault → Type 0
IsNotJudged files path accepted (Book fault) = IsFileReport (files path) (Err fault)
IsNotJudged files path accepted (Accepted place fault) =
    ((report : List Told) × IsFileReport (files path) (Ok report)) × IsNotAccepted files accepted (Accepted place fault)
IsNotJudged files path accepted NoMemory = Unit {0}
IsNotJudged files path accepted (Write fault) = ⊥

-- where the accepted report with this number differs first: the rank, and there the session
abbrev pub difference_line : ℕ → ℕ × ℕ → List ℕ
difference_line index difference =
    (decimal index ++ codes " differs at rank ") ++ ((decimal difference.0 ++ codes " session ") ++ number_line difference.1)

-- the first lines in order
abbrev pub difference_lines : List (ℕ × ℕ) → ℕ → List ℕ
difference_lines differences zero = []
difference_lines differences (suc n) = difference_lines differences n ++ difference_line n (slice_index_or differences n (0, 0))

-- the number of the first equal report, or a line for each accepted one
abbrev pub verdict_text : Verdict → List ℕ
verdict_text (Matches index) = codes "matches " ++ number_line index
verdict_text (Differs differences) = difference_lines differences (length differences)

-- a report that is equal to none is amiss
abbrev pub finding_of : Verdict → Finding
finding_of (Matches index) = Good
finding_of (Differs differences) = Bad

-- what is written for a verdict: its text, and beneath it what is shown, where that is asked for
abbrev pub IsAnswer : Bool → Files → List ℕ → List (List ℕ) → Verdict → List ℕ → Type 0
IsAnswer false files path accepted verdict text = IsVerdictOf files path accepted verdict × (text ≡ verdict_text verdict)
IsAnswer true files path accepted verdict text =
    (beneath : List ℕ) × IsShownOf files path accepted verdict beneath × (text ≡ verdict_text verdict ++ beneath)

-- the answer is written, or a front of it; or nothing, where there is no verdict
abbrev pub IsJudgeRun : Files → List ℕ → List (List ℕ) → Bool → {W : Type 0} → (W → Option (List ℕ)) → Counted W → Counted W → Result Finding JudgeFault → Type 0
IsJudgeRun files path accepted show contents old new (Ok finding) =
    (verdict : Verdict) × (text : List ℕ) × IsAnswer show files path accepted verdict text × (finding ≡ finding_of verdict) × Wrote contents old new text
IsJudgeRun files path accepted show contents old new (Err (Write fault)) =
    (verdict : Verdict) × (text : List ℕ) × IsAnswer show files path accepted verdict text × Stopped contents old new text
IsJudgeRun files path accepted show contents old new (Err fault) = (new ≡ old) × IsNotJudged files path accepted fault

-- a fault of one of so many accepted files
abbrev pub IsAcceptedPlace : ℕ → JudgeFault → Type 0
IsAcceptedPlace count (Accepted place fault) = place < count
IsAcceptedPlace count (Book fault) = Unit {0}
IsAcceptedPlace count NoMemory = Unit {0}
IsAcceptedPlace count (Write fault) = Unit {0}

-- ---- steps on the way

-- the spec and the report of the file's book, or why it has none
abbrev pub IsFileKept : Option (List ℕ) → Result Reported NoReport → Type 0
IsFileKept bytes (Ok kept) = (book : Contents) × IsFileBook bytes (Ok book) × IsKept book kept.spec kept.report
IsFileKept bytes (Err fault) = IsFileReport bytes (Err fault)

-- the specs and the reports of the books of the files at some paths
abbrev pub AreFilesKept : Files → List (List ℕ) → List SpecFile → List (List Told) → Type 0
AreFilesKept files paths specs reports = (books : List Contents) × AreBooks files paths books × AreKept books specs reports

-- the verdict and what is beneath it, which is nothing unless it is asked for
abbrev pub IsJudgement : Bool → Files → List ℕ → List (List ℕ) → Judgement → Type 0
IsJudgement false files path accepted judgement = IsVerdictOf files path accepted judgement.verdict × (judgement.beneath.items ≡ [])
IsJudgement true files path accepted judgement = IsShownOf files path accepted judgement.verdict judgement.beneath.items

abbrev pub IsJudged : Files → List ℕ → List (List ℕ) → Bool → Result Judgement JudgeFault → Type 0
IsJudged files path accepted show (Ok judgement) = IsJudgement show files path accepted judgement
IsJudged files path accepted show (Err fault) = IsNotJudged files path accepted fault
