-- What the program writes for the ranks that books miss.
use Rattle.std.specs.Prelude.{◌≡◌, ℕ, zero, suc, ◌-◌, ◌==◌, ◌++◌, cond, List, [], ◌∷◌, length, map, codes, decimal, slice_index_or, Option, Result, Ok, Err}
use Rattle.transcripts.specs.Counted.{Wrote, Stopped}
use Rattle.transcripts.specs.Lines.{number_line}
use Rattle.transcripts.specs.declared.counted.Counted.{Counted}
use Rattle.fact_books.specs.Books.{Contents}
use Rattle.class_stretches.specs.declared.rank_run.RankRun.{RankRun}
use Rattle.class_stretches.specs.Stretches.{run_of}
use Rattle.book_stretches.specs.Telling.{IsLeastClash}
use Rattle.book_stretches.specs.Missing.{AreToRun, AreUntold, HasNoClash}
use Rattle.book_commands.specs.declared.finding.Finding.{Finding}
use Rattle.book_commands.specs.declared.finding.Finding.TheVariants.{Good, Bad}
use Rattle.book_commands.specs.declared.missing.MissingRanks.{MissingRanks}
use Rattle.book_commands.specs.declared.missing.MissingRanks.TheVariants.{Untold, ToRun}
use Rattle.book_commands.specs.declared.missing.MissingFault.{MissingFault}
use Rattle.book_commands.specs.declared.missing.MissingFault.TheVariants.{Join, Clash, NoMemory, Write}
use Rattle.book_commands.specs.Joining.{Files, IsJoinOf, IsNotJoined}

-- the ranks that are asked for
abbrev pub AreAsked : Contents → MissingRanks → List RankRun → Type 0
AreAsked book Untold runs = AreUntold book (map run_of runs)
AreAsked book ToRun runs = AreToRun book (map run_of runs)

-- two numbers with this between them
abbrev pub pair_line : ℕ → List ℕ → ℕ → List ℕ
pair_line first between last = (decimal first ++ between) ++ number_line last

-- ranks from the first to the last, or one alone
abbrev pub ranks_line : ℕ → ℕ → List ℕ
ranks_line first last = cond (first == last) (number_line first) (pair_line first (codes "-") last)

-- missing ranks from the first to the last; those that are to be run from the first up to but not the end, as a run takes them
abbrev pub run_line : MissingRanks → RankRun → List ℕ
run_line Untold run = ranks_line run.first (run.end - 1)
run_line ToRun run = pair_line run.first (codes " ") run.end

-- the first lines in order
abbrev pub run_lines : MissingRanks → List RankRun → ℕ → List ℕ
run_lines asked runs zero = []
run_lines asked runs (suc n) = run_lines asked runs n ++ run_line asked (slice_index_or runs n (record { first = 0; end = 0 }))

abbrev pub missing_text : MissingRanks → List RankRun → List ℕ
missing_text asked runs = run_lines asked runs (length runs)

-- where ranks are missing that is amiss
abbrev pub finding_of : List RankRun → Finding
finding_of [] = Good
finding_of (run ∷ runs) = Bad

-- the books in the files are of one spec, no rank of which has two values, and of its ranks those that are asked for are these
pub record IsMissingOf (files : Files) (paths : List (List ℕ)) (asked : MissingRanks) (runs : List RankRun) : Type 0 where
  pub book : Contents
  pub joined : IsJoinOf files paths (length paths) book
  pub one : HasNoClash book
  pub are : AreAsked book asked runs

-- a line for each run of these ranks is written, or a front of that; or nothing, where the books are not joined, or clash, or memory ran out
abbrev pub IsMissingRun : Files → List (List ℕ) → MissingRanks → {W : Type 0} → (W → Option (List ℕ)) → Counted W → Counted W → Result Finding MissingFault → Type 0
IsMissingRun files paths asked contents old new (Ok finding) =
    (runs : List RankRun) × IsMissingOf files paths asked runs × (finding ≡ finding_of runs) × Wrote contents old new (missing_text asked runs)
IsMissingRun files paths asked contents old new (Err (Join fault)) = (new ≡ old) × IsNotJoined files paths fault
IsMissingRun files paths asked contents old new (Err (Clash rank)) =
    (new ≡ old) × ((book : Contents) × IsJoinOf files paths (length paths) book × IsLeastClash book rank)
IsMissingRun files paths asked contents old new (Err NoMemory) = new ≡ old
IsMissingRun files paths asked contents old new (Err (Write fault)) =
    (runs : List RankRun) × IsMissingOf files paths asked runs × Stopped contents old new (missing_text asked runs)

-- a fault of one of so many files
abbrev pub IsMissingPlace : ℕ → MissingFault → Type 0
IsMissingPlace count (Join fault) = Rattle.book_commands.specs.Joining.IsPlaced count fault
IsMissingPlace count fault = Unit {0}

-- ---- what the code keeps

-- why it is not told which ranks of a book are missing
abbrev pub IsNotMissing : Contents → MissingFault → Type 0
IsNotMissing book (Join fault) = ⊥
IsNotMissing book (Clash rank) = IsLeastClash book rank
IsNotMissing book NoMemory = Unit {0}
IsNotMissing book (Write fault) = ⊥

pub record AreMissingIn (book : Contents) (asked : MissingRanks) (runs : List RankRun) : Type 0 where
  pub one : HasNoClash book
  pub are : AreAsked book asked runs
