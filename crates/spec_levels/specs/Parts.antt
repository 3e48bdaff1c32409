-- The parts of reading a spec at a level.
use Rattle.std.specs.Prelude.{◌≡◌, ℕ, true, List, [], slice_get, Option, None, Some, is_some, Ok, IsUtf8}
use Rattle.bound_statements.specs.declared.statement.Level.{Level}
use Rattle.bound_specs.specs.Binding.{IsFileAt}
use Rattle.bound_specs.specs.Spec.{SpecFile}
use Rattle.spec_levels.specs.Asking.{asked_level}
use Rattle.spec_levels.specs.Levelled.{IsWrongLine, repeatable_lines}
use Rattle.spec_levels.specs.declared.asking.LevelFaultKind.TheVariants.{NotModelled}
use Rattle.spec_levels.specs.declared.spec.LevelledFault.{LevelledFault}
use Rattle.spec_levels.specs.declared.spec.LevelledFault.TheVariants.{Spec, Level as Wrong, NoMemory}

-- this level is asked for, if the bytes are a text
abbrev pub IsLevelFor : List ℕ → Option Level → Option Level → Type 0
IsLevelFor bytes word level = IsUtf8 bytes → asked_level word bytes ≡ Ok level

-- none is: a line is wrong, or memory ran out
abbrev pub IsNoLevelFor : List ℕ → Option Level → LevelledFault → Type 0
IsNoLevelFor bytes word (Spec fault) = ⊥
IsNoLevelFor bytes word (Wrong fault) = IsWrongLine bytes word fault
IsNoLevelFor bytes word NoMemory = Unit {0}

-- no transaction begins at REPEATABLE READ where a level is asked for
pub record IsModelled (file : SpecFile) : Type 0 where
  pub is : IsFileAt file.text file
  pub none : is_some file.asked ≡ true → repeatable_lines file.text is.tree ≡ []

-- a level is asked for, and the first one that does so does it on this line
pub record IsUnmodelledOn (file : SpecFile) (line : ℕ) : Type 0 where
  pub is : IsFileAt file.text file
  pub asked : is_some file.asked ≡ true
  pub first : slice_get (repeatable_lines file.text is.tree) 0 ≡ Some line

abbrev pub IsFirstUnmodelled : SpecFile → Option ℕ → Type 0
IsFirstUnmodelled file None = IsModelled file
IsFirstUnmodelled file (Some line) = IsUnmodelledOn file line

-- or memory ran out
abbrev pub IsUnmodelled : SpecFile → LevelledFault → Type 0
IsUnmodelled file (Spec fault) = ⊥
IsUnmodelled file (Wrong fault) = (fault.kind ≡ NotModelled) × IsUnmodelledOn file fault.line
IsUnmodelled file NoMemory = Unit {0}
