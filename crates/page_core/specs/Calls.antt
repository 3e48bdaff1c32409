-- What each call answers, in the caller's buffer, and how it ends.
use Rattle.std.specs.Prelude.{◌≡◌, ◌≢◌, ℕ, ◌<◌, ◌≤◌, ◌⊎◌, Bool, false, Option, None, List, [], length, take, IsUtf8}
use Rattle.bound_statements.specs.declared.statement.Level.{Level}
use Rattle.bound_specs.specs.Binding.{IsFileOf}
use Rattle.bound_specs.specs.Spec.{SpecFile, ranks}
use Rattle.machine_model.specs.Start.{start}
use Rattle.session_machine.specs.Running.{IsNotRunBy}
use Rattle.spec_binding.specs.SpecFiles.{IsNoSpec}
use Rattle.spec_levels.specs.Levelled.{IsLevelledSpec, IsWrongLevel}
use Rattle.spec_levels.specs.declared.asking.LevelFault.{LevelFault}
use Rattle.spec_binding.specs.declared.spec.SpecFault.{SpecFault}
use Rattle.spec_checks.specs.Checking.{IsCheck}
use Rattle.spec_commands.specs.Showing.{IsShowingOf}
use Rattle.spec_checks.specs.declared.checking.CheckFault.{CheckFault}
use Rattle.spec_checks.specs.declared.checking.CheckFault.TheVariants as check_fault
use Rattle.spec_commands.specs.declared.showing.ShowFault.{ShowFault}
use Rattle.spec_commands.specs.declared.showing.ShowFault.TheVariants as show_fault
use Rattle.spec_commands.specs.declared.showing.ShowForm.TheVariants.{Json}
use Rattle.spec_commands.specs.declared.showing.WantedOrder.TheVariants.{Rank}
use Rattle.spec_findings.specs.Told.{AreTold}
use Rattle.wanted_classes.specs.declared.wanted.WantedClasses.{WantedClasses}
use Rattle.wanted_classes.specs.declared.wanted.WantedForm.TheVariants as form
use Rattle.class_commands.specs.Classing.{MayHaveManyStates, IsTellingOf}
use Rattle.class_commands.specs.declared.classing.ClassesFault.{ClassesFault}
use Rattle.class_commands.specs.declared.classing.ClassesFault.TheVariants as classes_fault
use Rattle.page_core.specs.Ends.{classes_end, end_of, level_end, show_end, spec_end}
use Rattle.page_core.specs.declared.ending.End.{End}
use Rattle.page_core.specs.declared.ending.TheConstants.{ANSWERED, NO_MEMORY, NO_NAME, NO_ROOM}

-- ---- the buffer

-- a text is put to the front of the buffer, where it has room for all of it, and the call then ends so; its length is answered in any case
pub record IsPut (text : List ℕ) (ended : End) (old new : List ℕ) (end : End) (answered : ℕ) : Type 0 where
  pub length_is : answered ≡ length text
  pub fits : length text ≤ length old → (end ≡ ended) × (take (length text) new ≡ text)
  pub has_no_room : length old < length text → (end ≡ end_of NO_ROOM) × (new ≡ old)

-- a call ends so without a text
pub record IsRefused (ended end : End) (answered : ℕ) : Type 0 where
  pub none : answered ≡ 0
  pub end_is : end ≡ ended

-- and the buffer is as it was
abbrev pub HasNoText : End → List ℕ → List ℕ → End → ℕ → Type 0
HasNoText ended old new end answered = IsRefused ended end answered × (new ≡ old)

-- ---- how many orders there are

-- the number of the spec's orders; or 0, where the bytes are no spec file
abbrev pub IsRanksCall : List ℕ → End → ℕ → Type 0
IsRanksCall bytes end answered =
    ((end ≡ end_of ANSWERED) × ((file : SpecFile) × IsFileOf bytes file × (answered ≡ ranks file.run)))
    ⊎ ((answered ≡ 0) × ((fault : SpecFault) × IsNoSpec bytes fault × (end ≡ spec_end fault)))

-- ---- one order

-- why an order is not shown: the bytes are no spec file; what it says of levels is wrong; the rank is no rank; the line is not run; or memory ran
-- out
abbrev pub IsNotShown : List ℕ → ℕ → ShowFault → Type 0
IsNotShown bytes rank (show_fault.Spec fault) = IsNoSpec bytes fault
IsNotShown bytes rank (show_fault.Level fault) = IsWrongLevel bytes None fault
IsNotShown bytes rank (show_fault.NoRank fault) = ⊥
IsNotShown bytes rank show_fault.OutOfRange = (file : SpecFile) × IsLevelledSpec bytes None file × (ranks file.run ≤ rank)
IsNotShown bytes rank (show_fault.Run error) = (file : SpecFile) × IsLevelledSpec bytes None file × (rank < ranks file.run) × IsNotRunBy error (start file.run)
IsNotShown bytes rank show_fault.NoMemory = Unit {0}
IsNotShown bytes rank (show_fault.Write fault) = Unit {0}

-- it is put in the buffer, or the call ends so; a name that is no UTF-8 is refused first
abbrev pub IsShowCall : List ℕ → List ℕ → ℕ → List ℕ → List ℕ → End → ℕ → Type 0
IsShowCall bytes name rank old new end answered =
    (((text : List ℕ) × IsShowingOf bytes name (Rank rank) Json None text × IsPut text (end_of ANSWERED) old new end answered)
    ⊎ ((fault : ShowFault) × IsNotShown bytes rank fault × HasNoText (show_end fault) old new end answered))
    ⊎ ((¬ (IsUtf8 name)) × HasNoText (end_of NO_NAME) old new end answered)

-- ---- all orders in classes

-- all orders that clients can send as JSON, at the level for which the file asks, by all that they show or by what they answer
pub record IsWanted (answers : Bool) (wanted : WantedClasses) : Type 0 where
  pub sent : wanted.all_orders ≡ false
  pub undrawn : wanted.sample ≡ None
  pub answers_are : wanted.by_result ≡ answers
  pub all : wanted.filters.items ≡ []
  pub no_looks : wanted.queries.items ≡ []
  pub no_expectations : wanted.expectations.items ≡ []
  pub whole : wanted.brief ≡ false
  pub no_outcomes : wanted.outcomes ≡ false
  pub nothing_left : wanted.final_rows ≡ false
  pub as_json : wanted.form ≡ form.Json
  pub as_asked : wanted.level ≡ None

-- why classes are not told: the bytes are no spec file; what it says of levels is wrong; the orders are not run; there is no room for all states; or memory ran out
abbrev pub AreNotTold : List ℕ → Option Level → ClassesFault → Type 0
AreNotTold bytes level (classes_fault.Spec fault) = IsNoSpec bytes fault
AreNotTold bytes level (classes_fault.Level fault) = IsWrongLevel bytes level fault
AreNotTold bytes level (classes_fault.Run error) = (file : SpecFile) × IsLevelledSpec bytes level file × IsNotRunBy error (start file.run)
AreNotTold bytes level (classes_fault.Asked fault) = Unit {0}
AreNotTold bytes level (classes_fault.TooMany noted) = (file : SpecFile) × IsLevelledSpec bytes level file × MayHaveManyStates None file
AreNotTold bytes level classes_fault.NoMemory = Unit {0}
AreNotTold bytes level (classes_fault.Write fault) = Unit {0}

-- it is put in the buffer, or the call ends so; a name that is no UTF-8 is refused first
abbrev pub IsClassesCall : List ℕ → List ℕ → Bool → List ℕ → List ℕ → End → ℕ → Type 0
IsClassesCall bytes name answers old new end answered =
    (((wanted : WantedClasses) × IsWanted answers wanted
    × ((text : List ℕ) × IsTellingOf bytes name wanted text × IsPut text (end_of ANSWERED) old new end answered))
    ⊎ ((fault : ClassesFault) × AreNotTold bytes None fault × HasNoText (classes_end fault) old new end answered))
    ⊎ ((¬ (IsUtf8 name)) × HasNoText (end_of NO_NAME) old new end answered)

-- ---- what is wrong with a spec

-- why it is not told how much the spec has: the bytes are no spec file; what it says of levels is wrong; or memory ran out
abbrev pub IsNotChecked : List ℕ → CheckFault → Type 0
IsNotChecked bytes (check_fault.Spec fault) = IsNoSpec bytes fault
IsNotChecked bytes (check_fault.Level fault) = IsWrongLevel bytes None fault
IsNotChecked bytes check_fault.NoMemory = Unit {0}
IsNotChecked bytes (check_fault.Write fault) = Unit {0}

-- what is told of a fault is put in the buffer, and the call ends by the fault; or memory ran out
abbrev pub IsExplainedCall : List ℕ → List ℕ → SpecFault → List ℕ → List ℕ → End → ℕ → Type 0
IsExplainedCall bytes name fault old new end answered =
    (((spec_end fault).fault ≢ NO_MEMORY) × ((told : List ℕ) × AreTold name bytes fault told × IsPut told (spec_end fault) old new end answered))
    ⊎ HasNoText (end_of NO_MEMORY) old new end answered

-- how much the spec has is put in the buffer, or what is told of its faults; of levels that are wrong there is the end alone; a name that is no UTF-8
-- is refused first
abbrev pub IsCheckCall : List ℕ → List ℕ → List ℕ → List ℕ → End → ℕ → Type 0
IsCheckCall bytes name old new end answered =
    (((text : List ℕ) × IsCheck bytes text × IsPut text (end_of ANSWERED) old new end answered)
    ⊎ ((fault : SpecFault) × IsNoSpec bytes fault × IsExplainedCall bytes name fault old new end answered))
    ⊎ (((fault : LevelFault) × IsWrongLevel bytes None fault × HasNoText (level_end fault.line fault.kind) old new end answered)
    ⊎ (HasNoText (end_of NO_MEMORY) old new end answered
    ⊎ ((¬ (IsUtf8 name)) × HasNoText (end_of NO_NAME) old new end answered)))
