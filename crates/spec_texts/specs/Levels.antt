-- Isolation levels that transactions name, by their lines.
use Rattle.std.specs.Prelude.{◌≡◌, ℕ, ◌==◌, List, [], ◌∷◌, ◌++◌, if◌then◌else◌}
use Rattle.bound_statements.specs.Levels.{block_level}
use Rattle.bound_specs.specs.Binding.{IsFileAt}
use Rattle.bound_specs.specs.Spec.{SpecFile}
use Rattle.fault_texts.specs.Places.{place}
use Rattle.file_blocks.specs.Blocks.{sent_blocks}
use Rattle.spec_texts.specs.Statements.{statements_with}
use Rattle.spec_texts.specs.declared.statements.SqlPart.{SqlPart}
use Rattle.spec_texts.specs.declared.statements.SqlPart.TheVariants.{OtherLevel, RepeatableRead}

-- a line behind the last one that was told
abbrev pub new_line : ℕ → ℕ → List ℕ
new_line last line = if line == last then [] else line ∷ []

-- the lines on which some places stand, each once where it stands beside itself
abbrev pub lines_from : List ℕ → ℕ → List ℕ → List ℕ
lines_from text last [] = []
lines_from text last (n ∷ ns) = new_line last (place text n).line ++ lines_from text (place text n).line ns

-- the lines of the file of this text on which statements with such a part begin
pub record AreLinesOf (kind : SqlPart) (text : List ℕ) (file : SpecFile) (lines : List ℕ) : Type 0 where
  pub is : IsFileAt text file
  pub are : lines ≡ lines_from text 0 (statements_with kind (sent_blocks is.tree))

-- those on which a BEGIN names another level than the one that is asked for; where none is, than SERIALIZABLE
abbrev pub AreOtherLevelLines : List ℕ → SpecFile → List ℕ → Type 0
AreOtherLevelLines text file lines = AreLinesOf (OtherLevel (block_level file.asked)) text file lines

-- those on which one names REPEATABLE READ
abbrev pub AreRepeatableLines : List ℕ → SpecFile → List ℕ → Type 0
AreRepeatableLines text file lines = AreLinesOf RepeatableRead text file lines
