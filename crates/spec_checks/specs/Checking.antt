-- What a check writes for a spec.
use Rattle.std.specs.Prelude.{◌≡◌, ℕ, ◌++◌, List, Option, None, Result, Ok, Err, ⊤}
use Rattle.bound_specs.specs.Spec.{SpecFile}
use Rattle.bound_specs.specs.Binding.{IsFileOf}
use Rattle.transcripts.specs.Counted.{Wrote, Stopped}
use Rattle.transcripts.specs.declared.counted.Counted.{Counted}
use Rattle.spec_binding.specs.SpecFiles.{IsNoSpec}
use Rattle.spec_commands.specs.Counting.{check_lines}
use Rattle.spec_levels.specs.Levelled.{IsLevelledSpec, IsWrongLevel}
use Rattle.spec_checks.specs.Idle.{IsIdleText}
use Rattle.spec_checks.specs.declared.checking.CheckFault.{CheckFault}
use Rattle.spec_checks.specs.declared.checking.CheckFault.TheVariants.{Spec, Level, NoMemory, Write}

-- what of the spec of the bytes has no effect at the level for which it asks
pub record IsIdle (bytes idle : List ℕ) : Type 0 where
  pub file : SpecFile
  pub is_file : IsLevelledSpec bytes None file
  pub is_text : IsIdleText bytes file.asked idle

-- how much the spec of the bytes has, which is the same at each level; and what of it has no effect
pub record IsCheck (bytes text : List ℕ) : Type 0 where
  pub file : SpecFile
  pub is_file : IsFileOf bytes file
  pub idle : List ℕ
  pub has_part : IsIdle bytes idle
  pub text_is : text ≡ check_lines file ++ idle

-- why nothing is written: the bytes are no spec file; or what it says of levels is wrong; or memory ran out
abbrev pub IsNotRead : List ℕ → CheckFault → Type 0
IsNotRead bytes (Spec fault) = IsNoSpec bytes fault
IsNotRead bytes (Level fault) = IsWrongLevel bytes None fault
IsNotRead bytes NoMemory = Unit {0}
IsNotRead bytes (Write fault) = ⊥

-- that is written, or a front of it; or nothing
abbrev pub IsChecked : {W : Type 0} → (W → Option (List ℕ)) → Counted W → Counted W → List ℕ → Result ⊤ CheckFault → Type 0
IsChecked contents old new bytes (Ok done) = (text : List ℕ) × IsCheck bytes text × Wrote contents old new text
IsChecked contents old new bytes (Err (Spec fault)) = (new ≡ old) × IsNotRead bytes (Spec fault)
IsChecked contents old new bytes (Err (Level fault)) = (new ≡ old) × IsNotRead bytes (Level fault)
IsChecked contents old new bytes (Err NoMemory) = (new ≡ old) × IsNotRead bytes NoMemory
IsChecked contents old new bytes (Err (Write fault)) = (text : List ℕ) × IsCheck bytes text × Stopped contents old new text
