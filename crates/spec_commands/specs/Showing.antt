-- What the program writes for what happens in an order.
use Rattle.std.specs.Prelude.{◌≡◌, ℕ, ◌<◌, ◌≤◌, List, length, map, Option, Result, Ok, Err, ⊤}
use Rattle.bound_statements.specs.declared.statement.Level.{Level as Asked}
use Rattle.bound_specs.specs.Spec.{Step, SpecFile, ranks, line_of}
use Rattle.line_moments.specs.Left.{IsShownOf}
use Rattle.line_moments.specs.declared.shown.Shown.{Shown}
use Rattle.machine_model.specs.Start.{start}
use Rattle.order_names.specs.Orders.{IsRankOf}
use Rattle.session_machine.specs.Running.{IsNotRunBy}
use Rattle.shown_texts.specs.Pages.{page_bytes}
use Rattle.shown_values.specs.Page.{page_json}
use Rattle.spec_binding.specs.SpecFiles.{IsNoSpec}
use Rattle.spec_levels.specs.Levelled.{IsLevelledSpec, IsWrongLevel}
use Rattle.spec_levels.specs.Levels.{AreLevels}
use Rattle.spec_levels.specs.declared.levels.Levels.{Levels}
use Rattle.spec_texts.specs.Texts.{AreStepLines}
use Rattle.transcripts.specs.Counted.{Wrote, Stopped}
use Rattle.transcripts.specs.declared.counted.Counted.{Counted}
use Rattle.spec_commands.specs.Ordering.{IsNamePlace, IsNotRanked}
use Rattle.spec_commands.specs.declared.ordering.RankFault.{RankFault}
use Rattle.spec_commands.specs.declared.showing.ShowFault.{ShowFault}
use Rattle.spec_commands.specs.declared.showing.ShowFault.TheVariants.{Spec, Level, NoRank, OutOfRange, Run, NoMemory, Write}
use Rattle.spec_commands.specs.declared.showing.ShowForm.{ShowForm}
use Rattle.spec_commands.specs.declared.showing.ShowForm.TheVariants.{Text, Json}
use Rattle.spec_commands.specs.declared.showing.WantedOrder.{WantedOrder}
use Rattle.spec_commands.specs.declared.showing.WantedOrder.TheVariants.{Rank, Names}

-- the rank that is asked for, or the least one of the order whose steps have these names
abbrev pub IsWanted : SpecFile → WantedOrder → ℕ → Type 0
IsWanted file (Rank n) rank = rank ≡ n
IsWanted file (Names names) rank = IsRankOf file (map (λ n. n.now) names.now) rank

-- the order has no rank, and the fault tells why
abbrev pub IsNotWanted : SpecFile → WantedOrder → RankFault → Type 0
IsNotWanted file (Rank n) fault = ⊥
IsNotWanted file (Names names) fault = IsNotRanked file (map (λ n. n.now) names.now) fault

-- a place that the fault names is one of the names
abbrev pub IsPlaceOf : WantedOrder → RankFault → Type 0
IsPlaceOf (Rank n) fault = ⊥
IsPlaceOf (Names names) fault = IsNamePlace (length names.now) fault

abbrev pub IsWantedPlace : WantedOrder → ShowFault → Type 0
IsWantedPlace wanted (NoRank fault) = IsPlaceOf wanted fault
IsWantedPlace wanted fault = Unit {0}

-- what is written of an order of this rank, with the path of the file, the statements of its steps, its levels, and what is shown of the line
abbrev pub text_by : ShowForm → List ℕ → SpecFile → ℕ → List (List ℕ) → Levels → Shown → List ℕ
text_by Text path file rank statements levels shown = page_bytes (record {
  path = path;
  rank = rank;
  orders = ranks file.run;
  sessions = file.session_names;
  steps = file.step_names;
  statements = statements;
  level = levels.asked;
  other_lines = levels.other_lines.items;
  shown = shown;
})
text_by Json path file rank statements levels shown = page_json (record {
  name = path;
  rank = rank;
  orders = ranks file.run;
  level = levels.asked;
  other_lines = levels.other_lines.items;
  session_names = file.session_names;
  step_names = file.step_names;
  step_sessions = map (λ (s : Step). s.session) file.run.steps;
  statements = statements;
  line = line_of file.run rank;
  shown = shown;
})

-- the text tells what is shown of the line of this rank of the spec file, by the sequential machine
pub record IsShowing (bytes path : List ℕ) (file : SpecFile) (rank : ℕ) (form : ShowForm) (text : List ℕ) : Type 0 where
  pub rank_is : rank < ranks file.run
  pub statements : List (List ℕ)
  pub lines : AreStepLines bytes file statements
  pub levels : Levels
  pub are_levels : AreLevels bytes file levels
  pub shown : Shown
  pub shows : IsShownOf bytes file (line_of file.run rank) shown
  pub text_is : text ≡ text_by form path file rank statements levels shown

-- the same of the order that is asked for, in the spec file that the bytes are at the level
pub record IsShowingOf (bytes path : List ℕ) (wanted : WantedOrder) (form : ShowForm) (level : Option Asked) (text : List ℕ) : Type 0 where
  pub file : SpecFile
  pub is_file : IsLevelledSpec bytes level file
  pub rank : ℕ
  pub wants : IsWanted file wanted rank
  pub showing : IsShowing bytes path file rank form text

-- why what happens in an order is not written, and what that leaves in the writer: the bytes are no spec file; what it says of levels
-- is wrong; the order has no rank; the rank is no rank; the line is not run; memory ran out; or a write fails, which leaves a front of such a text
abbrev pub IsNotShown : {W : Type 0} → (W → Option (List ℕ)) → Counted W → Counted W → List ℕ → List ℕ → WantedOrder → ShowForm → Option Asked → ShowFault → Type 0
IsNotShown contents old new bytes path wanted form level (Spec fault) = (new ≡ old) × IsNoSpec bytes fault
IsNotShown contents old new bytes path wanted form level (Level fault) = (new ≡ old) × IsWrongLevel bytes level fault
IsNotShown contents old new bytes path wanted form level (NoRank fault) = (new ≡ old) × ((file : SpecFile) × IsLevelledSpec bytes level file × IsNotWanted file wanted fault)
IsNotShown contents old new bytes path wanted form level OutOfRange =
    (new ≡ old) × ((file : SpecFile) × IsLevelledSpec bytes level file × ((rank : ℕ) × IsWanted file wanted rank × (ranks file.run ≤ rank)))
IsNotShown contents old new bytes path wanted form level (Run error) =
    (new ≡ old)
    × ((file : SpecFile) × IsLevelledSpec bytes level file
    × ((rank : ℕ) × IsWanted file wanted rank × (rank < ranks file.run) × IsNotRunBy error (start file.run)))
IsNotShown contents old new bytes path wanted form level NoMemory = new ≡ old
IsNotShown contents old new bytes path wanted form level (Write fault) = (text : List ℕ) × IsShowingOf bytes path wanted form level text × Stopped contents old new text

-- all of it: what happens in the order is written, or a refusal is returned with what it leaves
abbrev pub IsShowRun : {W : Type 0} → (W → Option (List ℕ)) → Counted W → Counted W → List ℕ → List ℕ → WantedOrder → ShowForm → Option Asked → Result ⊤ ShowFault → Type 0
IsShowRun contents old new bytes path wanted form level (Ok done) = (text : List ℕ) × IsShowingOf bytes path wanted form level text × Wrote contents old new text
IsShowRun contents old new bytes path wanted form level (Err fault) = IsNotShown contents old new bytes path wanted form level fault

-- ---- the parts

-- a text is written, or a front of it, or nothing for want of memory
abbrev pub Writes : {W : Type 0} → (W → Option (List ℕ)) → Counted W → Counted W → List ℕ → Result ⊤ ShowFault → Type 0
Writes contents old new text (Ok done) = Wrote contents old new text
Writes contents old new text (Err (Write fault)) = Stopped contents old new text
Writes contents old new text (Err NoMemory) = new ≡ old
Writes contents old new text (Err fault) = ⊥

-- what a line shows and what its steps send, of a rank of the spec file
pub record IsFound (bytes : List ℕ) (file : SpecFile) (rank : ℕ) (statements : List (List ℕ)) (levels : Levels) (shown : Shown) : Type 0 where
  pub lines : AreStepLines bytes file statements
  pub are_levels : AreLevels bytes file levels
  pub shows : IsShownOf bytes file (line_of file.run rank) shown

-- it is not found: the line is not run, or memory ran out
abbrev pub IsNotFound : SpecFile → ShowFault → Type 0
IsNotFound file (Run error) = IsNotRunBy error (start file.run)
IsNotFound file NoMemory = Unit {0}
IsNotFound file fault = ⊥

-- the bytes are no spec at the level, or memory ran out
abbrev pub IsNotRead : List ℕ → Option Asked → ShowFault → Type 0
IsNotRead bytes level (Spec fault) = IsNoSpec bytes fault
IsNotRead bytes level (Level fault) = IsWrongLevel bytes level fault
IsNotRead bytes level NoMemory = Unit {0}
IsNotRead bytes level fault = ⊥

-- the order has no rank
abbrev pub IsUnranked : SpecFile → WantedOrder → ShowFault → Type 0
IsUnranked file wanted (NoRank fault) = IsNotWanted file wanted fault × IsPlaceOf wanted fault
IsUnranked file wanted fault = ⊥
