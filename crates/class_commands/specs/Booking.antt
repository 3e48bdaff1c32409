-- What is written of the classes of books, from the bytes of their files.
use Rattle.std.specs.Prelude.{◌≡◌, ℕ, ◌==◌, cond, false, List, [], ◌++◌, get_or, length, Option, None, Result, Ok, Err, codes, decimal, ⊤}
use Rattle.std.specs.Option.{is_some}
use Rattle.bound_specs.specs.Spec.{SpecFile, ranks}
use Rattle.transcripts.specs.Counted.{Wrote, Stopped}
use Rattle.transcripts.specs.declared.counted.Counted.{Counted}
use Rattle.fact_books.specs.Books.{Contents}
use Rattle.book_stretches.specs.Telling.{IsLeastClash}
use Rattle.book_rows.specs.Classes.{IsClassedBook}
use Rattle.book_rows.specs.declared.classed.BookClasses.{BookClasses}
use Rattle.book_commands.specs.Joining.{Files, IsJoinOf, IsNotJoined}
use Rattle.class_stretches.specs.declared.rank_run.RankRun.{RankRun}
use Rattle.class_texts.specs.Pages.{Page}
use Rattle.class_texts.specs.declared.kind.ClassKind.TheVariants.{Outcomes}
use Rattle.wanted_classes.specs.declared.wanted.WantedOutcomes.{WantedOutcomes}
use Rattle.spec_levels.specs.Levels.{AreLevels}
use Rattle.spec_levels.specs.declared.levels.Levels.{Levels}
use Rattle.class_commands.specs.Written.{AreRanks, IsWritten}
use Rattle.class_commands.specs.declared.booking.BookClassesFault.{BookClassesFault}
use Rattle.class_commands.specs.declared.booking.BookClassesFault.TheVariants.{Join, Clash, NoMemory, Write}

-- the path of the one book, or how many they are
abbrev pub books_name : List (List ℕ) → List ℕ
books_name paths = cond (length paths == 1) (get_or paths 0 []) (decimal (length paths) ++ codes " books")

abbrev pub outcomes_page : List (List ℕ) → SpecFile → Levels → BookClasses → WantedOutcomes → List (List RankRun) → Page
outcomes_page paths file levels x wanted runs = record {
  path = books_name paths;
  orders = ranks file.run;
  all_orders = false;
  sample = None;
  sessions = file.session_names;
  steps = file.step_names;
  tables = [];
  by = Outcomes;
  is_filtered = is_some x.missing;
  filters = [];
  missing = x.missing;
  level = levels.asked;
  other_lines = levels.other_lines.items;
  expectations = [];
  totals = x.totals;
  rows = x.rows.items;
  is_brief = wanted.brief;
  with_ranks = wanted.ranks;
  ranks = runs;
  with_outcomes = wanted.outcomes;
  with_left = false;
  looks = [];
}

-- the text tells these classes of the books at these paths
abbrev pub IsBookText : List (List ℕ) → SpecFile → BookClasses → WantedOutcomes → List ℕ → Type 0
IsBookText paths file x wanted text =
    (runs : List (List RankRun)) × AreRanks wanted.ranks x.told.stretches runs
    × ((levels : Levels) × AreLevels file.text file levels × IsWritten wanted.json file.text file (outcomes_page paths file levels x wanted runs) text)

-- the text tells the classes of what the books in the files tell, which are of one spec
pub record IsTellingOfBooks (files : Files) (paths : List (List ℕ)) (wanted : WantedOutcomes) (text : List ℕ) : Type 0 where
  pub book : Contents
  pub joined : IsJoinOf files paths (length paths) book
  pub classed : BookClasses
  pub are : IsClassedBook book classed
  pub text_is : IsBookText paths book.file classed wanted text

-- why the classes are not written, and what that leaves in the writer: the books are not joined, or clash; memory ran out; or a write fails, which leaves a
-- front of such a text
abbrev pub IsNotTelling : {W : Type 0} → (W → Option (List ℕ)) → Counted W → Counted W → Files → List (List ℕ) → WantedOutcomes → BookClassesFault → Type 0
IsNotTelling contents old new files paths wanted (Join fault) = (new ≡ old) × IsNotJoined files paths fault
IsNotTelling contents old new files paths wanted (Clash rank) =
    (new ≡ old) × ((book : Contents) × IsJoinOf files paths (length paths) book × IsLeastClash book rank)
IsNotTelling contents old new files paths wanted NoMemory = new ≡ old
IsNotTelling contents old new files paths wanted (Write fault) = (text : List ℕ) × IsTellingOfBooks files paths wanted text × Stopped contents old new text

-- all of it: the classes are written, or a refusal is returned with what it leaves
abbrev pub IsBookClassesRun : Files → List (List ℕ) → {W : Type 0} → (W → Option (List ℕ)) → Counted W → Counted W → WantedOutcomes → Result ⊤ BookClassesFault → Type 0
IsBookClassesRun files paths contents old new wanted (Ok done) = (text : List ℕ) × IsTellingOfBooks files paths wanted text × Wrote contents old new text
IsBookClassesRun files paths contents old new wanted (Err fault) = IsNotTelling contents old new files paths wanted fault

-- a fault of one of so many files
abbrev pub IsPlacedIn : ℕ → BookClassesFault → Type 0
IsPlacedIn count (Join fault) = Rattle.book_commands.specs.Joining.IsPlaced count fault
IsPlacedIn count fault = Unit {0}
