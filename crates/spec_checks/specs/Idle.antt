-- What is read of a spec file and has no effect, by the lines that it begins on.
use Rattle.std.specs.Prelude.{◌≡◌, ℕ, List, [], ◌∷◌, ◌++◌, codes, decimal, Option, Some, None}
use Rattle.std.specs.List.{flat_map}
use Rattle.bound_statements.specs.declared.statement.Level.{Level}
use Rattle.spec_reader.specs.Text.{IsSpec}
use Rattle.spec_reader.specs.Tree.{BlockTree, SessionTree, SpecTree}
use Rattle.file_blocks.specs.Blocks.{SentTree, sent_blocks}
use Rattle.spec_texts.specs.declared.statements.SqlPart.TheVariants.{Level as AnyLevel, Setting, NotNull}
use Rattle.spec_texts.specs.Levels.{lines_from}
use Rattle.spec_texts.specs.Statements.{statements_with}

-- where a teardown's block begins, if there is one
abbrev pub place_of : Option BlockTree → List ℕ
place_of None = []
place_of (Some b) = b.at ∷ []

abbrev pub session_teardowns : SessionTree → List ℕ
session_teardowns s = place_of s.head.teardown ++ place_of s.teardown

abbrev pub teardowns : SpecTree → List ℕ
teardowns tree = place_of tree.front.teardown ++ flat_map session_teardowns tree.sessions

-- the number of a line, behind a blank
abbrev pub number : ℕ → List ℕ
number line = codes " " ++ decimal line

-- what is told of the parts of a kind: nothing where there is none
abbrev pub idle_line : List ℕ → List ℕ → List ℕ → List ℕ
idle_line text words [] = []
idle_line text words (n ∷ ns) = codes "no effect: " ++ (words ++ (codes ", lines" ++ (flat_map number (lines_from text 0 (n ∷ ns)) ++ codes "\n")))

-- what is told of the levels that transactions name: nothing where a level is asked for, since they have their effect there
abbrev pub level_line : Option Level → List ℕ → List SentTree → List ℕ
level_line None text blocks = idle_line text (codes "isolation level") (statements_with AnyLevel blocks)
level_line (Some asked) text blocks = []

-- what is told of the file of this tree, the markers of whose lines are there, where this level is asked for
abbrev pub idle_lines : Option Level → List ℕ → SpecTree → List ℕ → List ℕ
idle_lines asked text tree markers =
    level_line asked text (sent_blocks tree)
    ++ (idle_line text (codes "SET") (statements_with Setting (sent_blocks tree))
    ++ (idle_line text (codes "NOT NULL") (statements_with NotNull (sent_blocks tree))
    ++ (idle_line text (codes "teardown") (teardowns tree)
    ++ idle_line text (codes "marker") markers)))

-- so it is of the spec that the text is of, and of some places of markers
pub record IsIdleText (text : List ℕ) (asked : Option Level) (told : List ℕ) : Type 0 where
  pub tree : SpecTree
  pub is_spec : IsSpec text tree
  pub markers : List ℕ
  pub told_is : told ≡ idle_lines asked text tree markers
