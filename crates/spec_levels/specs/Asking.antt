-- The level that a spec file asks for.
use Rattle.std.specs.Prelude.{ℕ, List, [], ◌∷◌, Option, None, Some, Result, Ok, Err, cond, codes, bytes_eq}
use Rattle.std.specs.List.{flat_map}
use Rattle.bound_statements.specs.declared.statement.Level.{Level}
use Rattle.bound_statements.specs.declared.statement.Level.TheVariants.{Serializable, Committed}
use Rattle.comment_lines.specs.Comments.{CommentLine, behind_label, comment_lines}
use Rattle.spec_levels.specs.declared.asking.LevelFaultKind.TheVariants.{NoSuchLevel, SecondLevel}
use Rattle.spec_levels.specs.declared.asking.LevelLine.{LevelLine}
use Rattle.spec_levels.specs.declared.asking.WrongLine.{WrongLine}

-- the level of a word
abbrev pub level_named : List ℕ → Option Level
level_named word = cond (bytes_eq word (codes "serializable")) (Some Serializable) (cond (bytes_eq word (codes "read-committed")) (Some Committed) None)

-- a line that asks for a level: where its comment begins, and its word
pub record AskingLine : Type 0 where
  pub at : ℕ
  pub word : List ℕ

-- what the code has
abbrev pub seen_line : LevelLine → AskingLine
seen_line line = record { at = line.at; word = line.word.now }

abbrev pub line_of : ℕ → Option (List ℕ) → List AskingLine
line_of at None = []
line_of at (Some word) = record { at = at; word = word } ∷ []

-- the line that a comment is, where it asks for a level
abbrev pub asking_line : CommentLine → List AskingLine
asking_line c = line_of c.at (behind_label (codes "level:") c.text)

abbrev pub asking_lines : List CommentLine → List AskingLine
asking_lines cs = flat_map asking_line cs

-- one line may ask for a level
abbrev pub read_alone : Level → List AskingLine → Result (Option Level) WrongLine
read_alone level [] = Ok (Some level)
read_alone level (second ∷ ls) = Err (record { kind = SecondLevel; at = second.at })

abbrev pub read_first : Option Level → ℕ → List AskingLine → Result (Option Level) WrongLine
read_first None at ls = Err (record { kind = NoSuchLevel; at = at })
read_first (Some level) at ls = read_alone level ls

abbrev pub read_level : List AskingLine → Result (Option Level) WrongLine
read_level [] = Ok None
read_level (l ∷ ls) = read_first (level_named l.word) l.at ls

-- the level that is asked for: that of a word which is given, or else the one for which the file asks
abbrev pub asked_level : Option Level → List ℕ → Result (Option Level) WrongLine
asked_level (Some level) bytes = Ok (Some level)
asked_level None bytes = read_level (asking_lines (comment_lines bytes))
