-- The parts of what is done for both levels.
use Rattle.std.specs.Prelude.{◌≡◌, ◌↔◌, ℕ, List, [], Option, Result, Ok, Err, ⊤}
use Rattle.lock_queues.specs.Reasons.{Among}
use Rattle.binding_model.specs.declared.tables.Table.{Table}
use Rattle.bound_statements.specs.declared.statement.Level.{Level}
use Rattle.bound_specs.specs.Spec.{Spec}
use Rattle.transcripts.specs.Counted.{Wrote, Stopped}
use Rattle.transcripts.specs.declared.counted.Counted.{Counted}
use Rattle.order_classes.specs.Letters.{answers_of}
use Rattle.order_classes.specs.declared.rows.ClassRow.{ClassRow}
use Rattle.order_classes.specs.declared.rows.Grouping.TheVariants as by
use Rattle.order_classes.specs.declared.rows.Totals.{Totals}
use Rattle.order_classes.specs.declared.shows.Shows.{Shows}
use Rattle.spec_schedules.specs.declared.kind.Kind.TheVariants.{Schedules}
use Rattle.class_rows.specs.Pages.{IsClassed}
use Rattle.class_rows.specs.declared.rows.Classed.{Classed}
use Rattle.class_texts.specs.Levels.{levels_bytes}
use Rattle.wanted_classes.specs.declared.wanted.WantedLevels.{WantedLevels}
use Rattle.class_commands.specs.declared.classing.ClassesFault.{ClassesFault}
use Rattle.class_commands.specs.declared.classing.ClassesFault.TheVariants.{NoMemory, Write}
use Rattle.class_commands.specs.declared.levels.FoundAt.{FoundAt}
use Rattle.class_commands.specs.declared.levels.Kept.{Kept}
use Rattle.class_commands.specs.Levels.{AreOnly, IsFoundAt, only_page, side_of}

-- the totals of the classes, and the results, of the orders that clients can send
abbrev pub AreCountedTwice : List Table → Spec → Totals → Classed → Type 0
AreCountedTwice tables run totals results =
    ((classes : Classed) × IsClassed Schedules tables run [] by.Shows classes × (totals ≡ classes.totals))
    × IsClassed Schedules tables run [] by.Answers results

-- these are the results of the rows
abbrev pub AreResultsOf : List ClassRow → List Shows → Type 0
AreResultsOf rows results = (a : Shows) → Among a results ↔ ((row : ClassRow) × Among row rows × (answers_of row.shows ≡ a))

-- this is kept of what is found at a level
pub record IsKeptOf (x : FoundAt) (k : Kept) : Type 0 where
  pub levels : k.levels ≡ x.levels
  pub totals : k.totals ≡ x.totals
  pub results : AreResultsOf x.results.rows.items k.results

abbrev pub IsKeptAt : List ℕ → Level → Kept → Type 0
IsKeptAt bytes level k = (x : FoundAt) × IsFoundAt bytes level x × IsKeptOf x k

-- the text of what is found at both levels, by what is kept of the first one
abbrev pub IsLevelsText : List ℕ → WantedLevels → Kept → FoundAt → List ℕ → Type 0
IsLevelsText path wanted k y text =
    (x : FoundAt) → IsKeptOf x k
    → (only : List ClassRow) × AreOnly x.results.rows.items y.results.rows.items only
    × (text ≡ levels_bytes (side_of x) (side_of y) y.results.totals.all.classes (only_page path wanted y only))

-- such a text is written; or a front of it is, or nothing for want of memory
abbrev pub WritesLevels : {W : Type 0} → (W → Option (List ℕ)) → Counted W → Counted W → (List ℕ → Type 0) → Result ⊤ ClassesFault → Type 0
WritesLevels contents old new IsText (Ok done) = (text : List ℕ) × IsText text × Wrote contents old new text
WritesLevels contents old new IsText (Err (Write fault)) = (text : List ℕ) × IsText text × Stopped contents old new text
WritesLevels contents old new IsText (Err NoMemory) = new ≡ old
WritesLevels contents old new IsText (Err fault) = ⊥
