-- What is written of an order that is shown.
use Rattle.std.proofs.Common.{◌≡◌, refl, sym, ap, ◌∙◌, subst, ℕ, ◌<◌, List, [], Option, None, Result, Ok, Err}
use Rattle.std.specs.Bool.{⊤}
use Rattle.bound_statements.specs.declared.statement.Level.{Level as Asked}
use Rattle.bound_specs.specs.Spec.{SpecFile, ranks, line_of}
use Rattle.spec_levels.specs.Levelled.{IsLevelledSpec}
use Rattle.spec_levels.specs.declared.levels.Levels.{Levels}
use Rattle.line_moments.specs.declared.shown.Shown.{Shown}
use Rattle.transcripts.specs.declared.counted.Counted.{Counted}
use Rattle.spec_commands.specs.declared.showing.ShowFault.{ShowFault}
use Rattle.spec_commands.specs.declared.showing.ShowFault.TheVariants.{Spec, Level, NoRank, OutOfRange, Run, NoMemory, Write}
use Rattle.spec_commands.specs.declared.showing.ShowForm.{ShowForm}
use Rattle.spec_commands.specs.declared.showing.WantedOrder.{WantedOrder}
use Rattle.spec_commands.specs.Showing.{IsWanted, IsWantedPlace, text_by, IsShowingOf, IsShowRun, IsFound, IsNotRead, IsNotShown, Writes}

module _ {W : Type 0} (contents : W → Option (List ℕ)) (old new : Counted W) (bytes path : List ℕ) (wanted : WantedOrder) (form : ShowForm) (level : Option Asked)
    (file : SpecFile) (rank : ℕ) (statements : List (List ℕ)) (levels : Levels) (shown : Shown) (is : IsLevelledSpec bytes level file) (same : file.text ≡ bytes)
    (wants : IsWanted file wanted rank) (inside : rank < ranks file.run)
    (found : IsFound file.text file rank statements levels shown) where
  abbrev text : List ℕ
  text = text_by form path file rank statements levels shown

  here : IsFound bytes file rank statements levels shown
  here = subst (λ t. IsFound t file rank statements levels shown) same found

  showing : IsShowingOf bytes path wanted form level text
  showing = record {
    file = file;
    is_file = is;
    rank = rank;
    wants = wants;
    showing = record { rank_is = inside; statements = statements; lines = here.lines; levels = levels; are_levels = here.are_levels; shown = shown; shows = here.shows; text_is = refl };
  }

  -- what is written of it is the run's
  pub show-runs : (result : Result ⊤ ShowFault) → Writes contents old new text result → IsShowRun contents old new bytes path wanted form level result
  show-runs (Ok done) wrote = (text, showing, wrote)
  show-runs (Err (Spec fault)) never = absurd never
  show-runs (Err (Level fault)) never = absurd never
  show-runs (Err (NoRank fault)) never = absurd never
  show-runs (Err OutOfRange) never = absurd never
  show-runs (Err (Run error)) never = absurd never
  show-runs (Err NoMemory) kept = kept
  show-runs (Err (Write fault)) stopped = (text, showing, stopped)

module _ {W : Type 0} (contents : W → Option (List ℕ)) (old : Counted W) (bytes path : List ℕ) (wanted : WantedOrder) (form : ShowForm) (level : Option Asked) where
  -- why bytes are no spec at the level is why nothing is shown of them
  pub not-read : (fault : ShowFault) → IsNotRead bytes level fault → IsNotShown contents old old bytes path wanted form level fault
  not-read (Spec fault) is = (refl, is)
  not-read (Level fault) is = (refl, is)
  not-read (NoRank fault) never = absurd never
  not-read OutOfRange never = absurd never
  not-read (Run error) never = absurd never
  not-read NoMemory any = refl
  not-read (Write fault) never = absurd never

  -- and names no place among the names of an order
  pub not-placed : (fault : ShowFault) → IsNotRead bytes level fault → IsWantedPlace wanted fault
  not-placed (Spec fault) is = tt
  not-placed (Level fault) is = tt
  not-placed (NoRank fault) never = absurd never
  not-placed OutOfRange never = absurd never
  not-placed (Run error) never = absurd never
  not-placed NoMemory any = tt
  not-placed (Write fault) never = absurd never
