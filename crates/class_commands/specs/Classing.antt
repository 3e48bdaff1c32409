-- What is written of the classes of a spec, from the bytes of its file.
use Rattle.std.specs.Prelude.{◌≡◌, ◌↔◌, ℕ, max, Bool, true, false, cond, List, [], ◌∷◌, ◌++◌, get_or, map, flat_map, codes, All, Option, Some, None, Result, Ok, Err}
use Rattle.binding_model.specs.declared.tables.Table.{Table}
use Rattle.bound_specs.specs.Spec.{Spec as Steps, SpecFile, ranks as ranks_of}
use Rattle.bound_statements.specs.declared.statement.Bound.{Bound}
use Rattle.machine_model.specs.Start.{Started, start}
use Rattle.machine_model.specs.World.{World}
use Rattle.session_machine.specs.Running.{IsNotRunBy}
use Rattle.session_machine.specs.declared.error.RunError.{RunError}
use Rattle.transcripts.specs.Counted.{Wrote, Stopped}
use Rattle.transcripts.specs.declared.counted.Counted.{Counted}
use Rattle.events.specs.declared.event.Event.{Event}
use Rattle.spec_binding.specs.SpecFiles.{IsNoSpec}
use Rattle.spec_levels.specs.Levelled.{IsLevelledSpec, IsWrongLevel}
use Rattle.spec_levels.specs.Levels.{AreLevels}
use Rattle.spec_levels.specs.declared.levels.Levels.{Levels}
use Rattle.spec_texts.specs.Texts.{Declares}
use Rattle.order_classes.specs.Looks.{one_row}
use Rattle.order_classes.specs.declared.letters.Filter.{Filter}
use Rattle.order_classes.specs.declared.rows.ClassRow.{ClassRow}
use Rattle.order_classes.specs.declared.rows.Grouping.{Grouping}
use Rattle.order_classes.specs.declared.rows.Grouping.TheVariants as by
use Rattle.spec_schedules.specs.declared.kind.Kind.{Kind}
use Rattle.spec_schedules.specs.declared.kind.Kind.TheVariants.{Permutations, Schedules}
use Rattle.spec_classes.specs.Classes.{drawn}
use Rattle.spec_classes.specs.Drawing.{AreDrawn}
use Rattle.class_rows.specs.Pages.{IsClassed}
use Rattle.class_rows.specs.declared.rows.Classed.{Classed}
use Rattle.class_looks.specs.Seeing.{told_by, sees}
use Rattle.class_texts.specs.Beneath.{Look}
use Rattle.class_texts.specs.Expected.{Expectation}
use Rattle.class_texts.specs.Letters.{kind_of}
use Rattle.class_texts.specs.Pages.{Page}
use Rattle.wanted_classes.specs.declared.wanted.WantedClasses.{WantedClasses}
use Rattle.wanted_classes.specs.Filters.{filters_of}
use Rattle.wanted_classes.specs.declared.wanted.WantedFilter.{WantedFilter}
use Rattle.wanted_classes.specs.declared.wanted.WantedSample.{WantedSample}
use Rattle.wanted_classes.specs.declared.wanted.WantedTest.{WantedTest}
use Rattle.wanted_classes.specs.declared.wanted.WantedTest.TheVariants as wanted
use Rattle.asked_classes.specs.declared.asking.AskedClasses.{AskedClasses}
use Rattle.asked_classes.specs.declared.looks.AskedLook.{AskedLook}
use Rattle.asked_classes.specs.declared.expectations.AskedExpectation.{AskedExpectation}
use Rattle.asked_classes.specs.Asking.{IsAsked, IsRefused}
use Rattle.book_commands.specs.declared.finding.Finding.{Finding}
use Rattle.book_commands.specs.declared.finding.Finding.TheVariants.{Good}
use Rattle.class_commands.specs.Opened.{IsWrittenAs}
use Rattle.class_commands.specs.declared.classing.ClassesFault.{ClassesFault}
use Rattle.class_commands.specs.declared.classing.ClassesFault.TheVariants.{Spec, Level, Asked, Run, TooMany, NoMemory, Write}

-- ---- the page

abbrev pub grouping : Bool → Grouping
grouping true = by.Answers
grouping false = by.Shows

-- all permutations, or those orders alone that clients can send
abbrev pub kind_by : Bool → Kind
kind_by true = Permutations
kind_by false = Schedules

-- the word of a filter
abbrev pub test_word : WantedTest → List ℕ
test_word wanted.Waits = codes "waits"
test_word wanted.Deadlock = codes "deadlock"
test_word (wanted.DeadlockOf name) = codes "deadlock=" ++ name.now
test_word wanted.Error = codes "error"
test_word wanted.NotSent = codes "not-sent"
test_word wanted.Stuck = codes "stuck"
test_word wanted.Anomaly = codes "anomaly"

abbrev pub filter_word : WantedFilter → List ℕ
filter_word f = cond f.wanted (codes "--") (codes "--no-") ++ test_word f.test

abbrev pub behind_blank : WantedFilter → List ℕ
behind_blank f = 32 ∷ filter_word f

abbrev pub filters_text : List WantedFilter → List ℕ
filters_text [] = []
filters_text (f ∷ fs) = filter_word f ++ flat_map behind_blank fs

-- what a SELECT sees of the rows that a class leaves
abbrev pub seen_of : Bound → ClassRow → List Event
seen_of st row = told_by (sees st row.shows.left)

abbrev pub look_over : List ClassRow → AskedLook → Look
look_over rows a = record { text = a.text.now; seen = map (seen_of a.look) rows }

abbrev pub expectation_over : List ClassRow → AskedExpectation → Expectation
expectation_over rows a = record { text = a.text.now; values = a.values.items; seen = map (seen_of a.look) rows }

-- the seed of a sample
abbrev pub seed_of : Option WantedSample → Option ℕ
seed_of None = None
seed_of (Some sample) = Some sample.seed

abbrev pub has_some : {X : Type 0} → List X → Bool
has_some [] = false
has_some (x ∷ xs) = true

-- with the path that the spec is told to lie at, and its levels
abbrev pub page_of : List ℕ → SpecFile → List Table → Levels → WantedClasses → AskedClasses → Classed → Page
page_of path file tables levels wanted asked x =
    record {
      path = path;
      orders = x.orders;
      all_orders = wanted.all_orders;
      sample = seed_of wanted.sample;
      sessions = file.session_names;
      steps = file.step_names;
      tables = tables;
      by = kind_of (grouping wanted.by_result);
      is_filtered = has_some asked.filters.items;
      filters = filters_text (filters_of wanted);
      missing = None;
      level = levels.asked;
      other_lines = levels.other_lines.items;
      expectations = map (expectation_over x.rows.items) asked.expectations.items;
      totals = x.totals;
      rows = x.rows.items;
      is_brief = wanted.brief;
      with_ranks = false;
      ranks = [];
      with_outcomes = wanted.outcomes;
      with_left = wanted.final_rows;
      looks = map (look_over x.rows.items) asked.looks.items;
    }

-- ---- what is found

-- of each class the SELECT sees the one row that is expected
abbrev pub IsMet : List ClassRow → AskedExpectation → Type 0
IsMet rows a = All (λ row. seen_of a.look row ≡ told_by (one_row a.values.items)) rows

-- nothing is amiss where all that is expected is so
abbrev pub IsFinding : List ClassRow → List AskedExpectation → Finding → Type 0
IsFinding rows expectations finding = (finding ≡ Good) ↔ All (IsMet rows) expectations

-- ---- the orders that are counted

-- all orders of the spec; or those of ranks that were drawn, one where none are wanted, each of which counts by itself
abbrev pub IsCounted : Option WantedSample → Steps → List ℕ → Steps → Type 0
IsCounted None run ranks counted = counted ≡ run
IsCounted (Some sample) run ranks counted =
    AreDrawn sample.seed (max 1 sample.orders) (ranks_of run) ranks × (counted ≡ drawn run ranks)

-- the row with the rank that stands at its place
abbrev pub with_rank : List ℕ → ClassRow → ClassRow
with_rank ranks row = record { least = get_or ranks row.least 0; count = row.count; letters = row.letters; line = row.line; shows = row.shows }

-- classes of drawn orders are told by their ranks, and not by their places among these: where the ranks rise, the first place of a class has its least rank
abbrev pub IsToldOf : Option WantedSample → List ℕ → Classed → Classed → Type 0
IsToldOf None ranks x told = told ≡ x
IsToldOf (Some sample) ranks x told =
    (told.orders ≡ x.orders) × (told.totals ≡ x.totals) × (told.rows.items ≡ map (with_rank ranks) x.rows.items)

-- the orders that are counted, in classes, as they are told
pub record AreCounted (sample : Option WantedSample) (kind : Kind) (tables : List Table) (run : Steps) (filters : List Filter) (by : Grouping) (told : Classed) : Type 0 where
  pub ranks : List ℕ
  pub counted : Steps
  pub is_counted : IsCounted sample run ranks counted
  pub placed : Classed
  pub are : IsClassed kind tables counted filters by placed
  pub is_told : IsToldOf sample ranks placed told

-- ---- the text

-- the text tells the classes of the orders that are asked for of the spec file that the bytes are at the level that is wanted, with the tables that its main
-- setups declare
pub record IsTellingOf (bytes path : List ℕ) (wanted : WantedClasses) (text : List ℕ) : Type 0 where
  pub file : SpecFile
  pub is_file : IsLevelledSpec bytes wanted.level file
  pub tables : List Table
  pub declares : Declares bytes file tables
  pub asked : AskedClasses
  pub is_asked : IsAsked file tables wanted asked
  pub world : World
  pub starts : start file.run ≡ Started world
  pub classed : Classed
  pub are : AreCounted wanted.sample (kind_by wanted.all_orders) tables file.run asked.filters.items (grouping wanted.by_result) classed
  pub levels : Levels
  pub are_levels : AreLevels bytes file levels
  pub written : IsWrittenAs wanted.form bytes file (page_of path file tables levels wanted asked classed) text

-- what is found of the orders that it tells of
abbrev pub IsFoundIn : {bytes path : List ℕ} {wanted : WantedClasses} {text : List ℕ} → IsTellingOf bytes path wanted text → Finding → Type 0
IsFoundIn telling finding = IsFinding telling.classed.rows.items telling.asked.expectations.items finding

-- of the file nothing is asked, or something is and the orders are not run
abbrev pub IsNotAsked : List ℕ → WantedClasses → (SpecFile → List Table → Type 0) → Type 0
IsNotAsked bytes wanted Why = (file : SpecFile) × IsLevelledSpec bytes wanted.level file × ((tables : List Table) × Declares bytes file tables × Why file tables)

abbrev pub IsNotRun : SpecFile → List Table → WantedClasses → RunError → Type 0
IsNotRun file tables wanted error = ((asked : AskedClasses) × IsAsked file tables wanted asked) × IsNotRunBy error (start file.run)

-- all orders are counted, the spec has no permutation lines, and it starts: too many states may be told
abbrev pub MayHaveManyStates : Option WantedSample → SpecFile → Type 0
MayHaveManyStates sample file = (sample ≡ None) × (file.run.lines ≡ []) × ((w : World) × (start file.run ≡ Started w))

-- something is asked, and too many states may be told
abbrev pub IsNotExplored : SpecFile → List Table → WantedClasses → Type 0
IsNotExplored file tables wanted = ((asked : AskedClasses) × IsAsked file tables wanted asked) × MayHaveManyStates wanted.sample file

-- why classes are not written, and what that leaves in the writer: the bytes are no spec file; what it says of levels is wrong; nothing is
-- asked of it; the orders are not run; there is no room for all states; memory ran out; or a write fails, which leaves a front of such a text
abbrev pub IsNotTold : {W : Type 0} → (W → Option (List ℕ)) → Counted W → Counted W → List ℕ → List ℕ → WantedClasses → ClassesFault → Type 0
IsNotTold contents old new bytes path wanted (Spec fault) = (new ≡ old) × IsNoSpec bytes fault
IsNotTold contents old new bytes path wanted (Level fault) = (new ≡ old) × IsWrongLevel bytes wanted.level fault
IsNotTold contents old new bytes path wanted (Asked fault) = (new ≡ old) × IsNotAsked bytes wanted (λ file tables. IsRefused file tables wanted fault)
IsNotTold contents old new bytes path wanted (Run error) = (new ≡ old) × IsNotAsked bytes wanted (λ file tables. IsNotRun file tables wanted error)
IsNotTold contents old new bytes path wanted (TooMany noted) = (new ≡ old) × IsNotAsked bytes wanted (λ file tables. IsNotExplored file tables wanted)
IsNotTold contents old new bytes path wanted NoMemory = new ≡ old
IsNotTold contents old new bytes path wanted (Write fault) = (text : List ℕ) × IsTellingOf bytes path wanted text × Stopped contents old new text

-- all of it: the classes are written, and what is found is told; or a refusal is returned with what it leaves
abbrev pub IsClassesRun : {W : Type 0} → (W → Option (List ℕ)) → Counted W → Counted W → List ℕ → List ℕ → WantedClasses → Result Finding ClassesFault → Type 0
IsClassesRun contents old new bytes path wanted (Ok finding) =
    (text : List ℕ) × ((telling : IsTellingOf bytes path wanted text) × IsFoundIn telling finding) × Wrote contents old new text
IsClassesRun contents old new bytes path wanted (Err fault) = IsNotTold contents old new bytes path wanted fault
