-- Which bytes are a spec file at the level that is asked for.
use Rattle.std.specs.Prelude.{◌≡◌, ◌⊎◌, ℕ, true, List, [], slice_get, Option, Some, is_some, Ok, Err}
use Rattle.bound_statements.specs.declared.statement.Level.{Level}
use Rattle.bound_specs.specs.Binding.{IsFileAt, IsFileOf}
use Rattle.bound_specs.specs.Spec.{SpecFile}
use Rattle.fault_texts.specs.Places.{place}
use Rattle.file_blocks.specs.Blocks.{sent_blocks}
use Rattle.spec_binding.specs.SpecFiles.{IsNoSpec}
use Rattle.spec_reader.specs.Tree.{SpecTree}
use Rattle.spec_texts.specs.Levels.{lines_from}
use Rattle.spec_texts.specs.Statements.{statements_with}
use Rattle.spec_texts.specs.declared.statements.SqlPart.TheVariants.{RepeatableRead}
use Rattle.spec_levels.specs.Asking.{asked_level}
use Rattle.spec_levels.specs.declared.asking.LevelFault.{LevelFault}
use Rattle.spec_levels.specs.declared.asking.LevelFaultKind.TheVariants.{NotModelled}
use Rattle.spec_levels.specs.declared.asking.WrongLine.{WrongLine}
use Rattle.spec_levels.specs.declared.spec.LevelledFault.{LevelledFault}
use Rattle.spec_levels.specs.declared.spec.LevelledFault.TheVariants.{Spec, Level as Wrong, NoMemory}

-- the lines on which a transaction of a file begins at REPEATABLE READ
abbrev pub repeatable_lines : List ℕ → SpecTree → List ℕ
repeatable_lines bytes tree = lines_from bytes 0 (statements_with RepeatableRead (sent_blocks tree))

-- the bytes are this spec file at the level that is asked for, by a word or by a line of the file; where one is, no transaction begins at REPEATABLE READ
pub record IsLevelledSpec (bytes : List ℕ) (word : Option Level) (file : SpecFile) : Type 0 where
  pub is : IsFileAt bytes file
  pub level : asked_level word bytes ≡ Ok file.asked
  pub modelled : is_some file.asked ≡ true → repeatable_lines bytes is.tree ≡ []

-- a line of the file asks for no level that it may ask for
pub record IsWrongLine (bytes : List ℕ) (word : Option Level) (fault : LevelFault) : Type 0 where
  pub wrong : WrongLine
  pub is : asked_level word bytes ≡ Err wrong
  pub kind : fault.kind ≡ wrong.kind
  pub line : fault.line ≡ (place bytes wrong.at).line

-- a level is asked for, and the first transaction that begins at REPEATABLE READ does so on this line
pub record IsNotModelled (bytes : List ℕ) (word : Option Level) (fault : LevelFault) : Type 0 where
  pub file : SpecFile
  pub is : IsFileAt bytes file
  pub level : asked_level word bytes ≡ Ok file.asked
  pub asked : is_some file.asked ≡ true
  pub kind : fault.kind ≡ NotModelled
  pub line : slice_get (repeatable_lines bytes is.tree) 0 ≡ Some fault.line

-- the bytes are a spec file, and what it says of levels is wrong
abbrev pub IsWrongLevel : List ℕ → Option Level → LevelFault → Type 0
IsWrongLevel bytes word fault = (((file : SpecFile) × IsFileOf bytes file) × IsWrongLine bytes word fault) ⊎ IsNotModelled bytes word fault

-- why bytes are no spec file at a level: they are none at all; or what the file says of levels is wrong; or memory ran out
abbrev pub IsNoLevelledSpec : List ℕ → Option Level → LevelledFault → Type 0
IsNoLevelledSpec bytes word (Spec fault) = IsNoSpec bytes fault
IsNoLevelledSpec bytes word (Wrong fault) = IsWrongLevel bytes word fault
IsNoLevelledSpec bytes word NoMemory = Unit {0}
