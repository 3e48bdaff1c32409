-- What is written of the orders of a spec at both levels, from the bytes of its file.
use Rattle.std.specs.Prelude.{◌≡◌, ◌⊎◌, ℕ, false, List, [], ◌∷◌, Option, Some, None, Result, Ok, Err, ⊤}
use Rattle.lock_queues.specs.Reasons.{Among}
use Rattle.bound_statements.specs.declared.statement.Level.{Level}
use Rattle.bound_statements.specs.declared.statement.Level.TheVariants.{Serializable, Committed}
use Rattle.bound_specs.specs.Spec.{SpecFile}
use Rattle.machine_model.specs.Start.{Started, start}
use Rattle.machine_model.specs.World.{World}
use Rattle.session_machine.specs.Running.{IsNotRunBy}
use Rattle.transcripts.specs.Counted.{Wrote, Stopped}
use Rattle.transcripts.specs.declared.counted.Counted.{Counted}
use Rattle.spec_binding.specs.SpecFiles.{IsNoSpec}
use Rattle.spec_levels.specs.Levelled.{IsLevelledSpec, IsWrongLevel}
use Rattle.spec_levels.specs.Levels.{AreLevels}
use Rattle.spec_texts.specs.Texts.{Declares}
use Rattle.order_classes.specs.Letters.{answers_of}
use Rattle.order_classes.specs.declared.rows.ClassRow.{ClassRow}
use Rattle.order_classes.specs.declared.rows.Grouping.TheVariants as by
use Rattle.spec_schedules.specs.declared.kind.Kind.TheVariants.{Schedules}
use Rattle.class_rows.specs.Pages.{IsClassed}
use Rattle.class_rows.specs.declared.rows.Classed.{Classed}
use Rattle.class_texts.specs.Levels.{Side, levels_bytes}
use Rattle.class_texts.specs.Pages.{Page}
use Rattle.class_texts.specs.declared.kind.ClassKind.TheVariants.{Answers}
use Rattle.wanted_classes.specs.declared.wanted.WantedLevels.{WantedLevels}
use Rattle.class_commands.specs.Classing.{MayHaveManyStates}
use Rattle.class_commands.specs.declared.classing.ClassesFault.{ClassesFault}
use Rattle.class_commands.specs.declared.classing.ClassesFault.TheVariants.{Spec, Level as WrongLevel, Asked, Run, TooMany, NoMemory, Write}
use Rattle.class_commands.specs.declared.levels.FoundAt.{FoundAt}

-- ---- what is found at a level

-- the spec file that the bytes are at the level, with the tables that its main setups declare and its levels; the totals of the classes of the orders that
-- clients can send; and their results
pub record IsFoundAt (bytes : List ℕ) (level : Level) (x : FoundAt) : Type 0 where
  pub is_file : IsLevelledSpec bytes (Some level) x.spec
  pub declares : Declares bytes x.spec x.tables.items
  pub are_levels : AreLevels bytes x.spec x.levels
  pub world : World
  pub starts : start x.spec.run ≡ Started world
  pub classes : Classed
  pub are_classes : IsClassed Schedules x.tables.items x.spec.run [] by.Shows classes
  pub totals : x.totals ≡ classes.totals
  pub are_results : IsClassed Schedules x.tables.items x.spec.run [] by.Answers x.results

-- ---- what one level alone has

-- one of these results is that of the row
abbrev pub HasResult : List ClassRow → ClassRow → Type 0
HasResult rows row = (other : ClassRow) × Among other rows × (answers_of other.shows ≡ answers_of row.shows)

-- of the rows those whose results the others do not have, in their order
abbrev pub AreOnly : List ClassRow → List ClassRow → List ClassRow → Type 0
AreOnly others [] only = only ≡ []
AreOnly others (row ∷ rows) only =
    (HasResult others row × AreOnly others rows only)
    ⊎ ((HasResult others row → ⊥) × ((rest : List ClassRow) × (only ≡ row ∷ rest) × AreOnly others rows rest))

-- ---- the text

abbrev pub side_of : FoundAt → Side
side_of x = record { level = x.levels.asked; other_lines = x.levels.other_lines.items; totals = x.totals }

-- the page of these of the results at a level, with the path that the spec is told to lie at
abbrev pub only_page : List ℕ → WantedLevels → FoundAt → List ClassRow → Page
only_page path wanted x rows =
    record {
      path = path;
      orders = x.results.orders;
      all_orders = false;
      sample = None;
      sessions = x.spec.session_names;
      steps = x.spec.step_names;
      tables = x.tables.items;
      by = Answers;
      is_filtered = false;
      filters = [];
      missing = None;
      level = x.levels.asked;
      other_lines = x.levels.other_lines.items;
      expectations = [];
      totals = x.results.totals;
      rows = rows;
      is_brief = wanted.brief;
      with_ranks = false;
      ranks = [];
      with_outcomes = wanted.outcomes;
      with_left = wanted.final_rows;
      looks = [];
    }

-- the text tells what is found at each of the two levels, and of the results at READ COMMITTED those that SERIALIZABLE does not have
pub record IsTellingOfLevels (bytes path : List ℕ) (wanted : WantedLevels) (text : List ℕ) : Type 0 where
  pub serializable : FoundAt
  pub is_serializable : IsFoundAt bytes Serializable serializable
  pub committed : FoundAt
  pub is_committed : IsFoundAt bytes Committed committed
  pub only : List ClassRow
  pub are_only : AreOnly serializable.results.rows.items committed.results.rows.items only
  pub text_is :
      text ≡ levels_bytes (side_of serializable) (side_of committed) committed.results.totals.all.classes (only_page path wanted committed only)

-- the bytes are a spec file at one of the levels, and so is this
abbrev pub IsSoAtLevel : List ℕ → (SpecFile → Type 0) → Type 0
IsSoAtLevel bytes IsSo = (level : Level) × (file : SpecFile) × IsLevelledSpec bytes (Some level) file × IsSo file

-- why nothing is found at one of the levels: the bytes are no spec file; what it says of levels is wrong; its orders are not run; there is no room for all
-- states; or memory ran out
abbrev pub IsNotFoundAt : List ℕ → ClassesFault → Type 0
IsNotFoundAt bytes (Spec fault) = IsNoSpec bytes fault
IsNotFoundAt bytes (WrongLevel fault) = (level : Level) × IsWrongLevel bytes (Some level) fault
IsNotFoundAt bytes (Asked fault) = ⊥
IsNotFoundAt bytes (Run error) = IsSoAtLevel bytes (λ file. IsNotRunBy error (start file.run))
IsNotFoundAt bytes (TooMany noted) = IsSoAtLevel bytes (MayHaveManyStates None)
IsNotFoundAt bytes NoMemory = Unit {0}
IsNotFoundAt bytes (Write fault) = ⊥

-- all of it: both levels are told; or one of them is not found, and nothing is written; or a write fails, which leaves a front of such a text
abbrev pub IsLevelsRun : {W : Type 0} → (W → Option (List ℕ)) → Counted W → Counted W → List ℕ → List ℕ → WantedLevels → Result ⊤ ClassesFault → Type 0
IsLevelsRun contents old new bytes path wanted (Ok done) = (text : List ℕ) × IsTellingOfLevels bytes path wanted text × Wrote contents old new text
IsLevelsRun contents old new bytes path wanted (Err (Write fault)) =
    (text : List ℕ) × IsTellingOfLevels bytes path wanted text × Stopped contents old new text
IsLevelsRun contents old new bytes path wanted (Err fault) = (new ≡ old) × IsNotFoundAt bytes fault
