-- The level that is asked for, and the lines of the file with another one.
use Rattle.std.specs.Prelude.{ℕ, List, [], ◌++◌, Option, Some, None, codes, decimal}
use Rattle.bound_statements.specs.declared.statement.Level.{Level}
use Rattle.bound_statements.specs.declared.statement.Level.TheVariants.{Serializable, Committed}
use Rattle.shown_values.specs.Strings.{array_json}

-- a level as a word
abbrev pub level_word : Level → List ℕ
level_word Serializable = codes "serializable"
level_word Committed = codes "read-committed"

-- a member of an object, behind others
abbrev pub asked_json : Level → List ℕ → List ℕ
asked_json level lines = (codes ",\"levels\":{\"default\":\"" ++ level_word level) ++ (codes "\",\"other_lines\":" ++ array_json decimal lines) ++ codes "}"

-- where none is asked for there is no such member
abbrev pub levels_json : Option Level → List ℕ → List ℕ
levels_json None lines = []
levels_json (Some level) lines = asked_json level lines
