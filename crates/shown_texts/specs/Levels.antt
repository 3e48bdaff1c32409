-- What is said of isolation levels: under which one all stands, or that they have no effect.
use Rattle.std.specs.Prelude.{ℕ, List, [], ◌∷◌, ◌++◌, codes, decimal, flat_map, Option, Some, None}
use Rattle.bound_statements.specs.declared.statement.Level.{Level}
use Rattle.bound_statements.specs.declared.statement.Level.TheVariants.{Serializable, Committed}

abbrev pub behind_comma : ℕ → List ℕ
behind_comma n = codes ", " ++ decimal n

abbrev pub numbers_text : ℕ → List ℕ → List ℕ
numbers_text n ns = decimal n ++ flat_map behind_comma ns

-- ---- where none is asked for

abbrev pub one_level : ℕ → List ℕ
one_level n = codes "locking: strict two-phase locking; isolation level (line " ++ (decimal n ++ codes ") has no effect")

abbrev pub several_levels : ℕ → List ℕ → List ℕ
several_levels n ns = codes "locking: strict two-phase locking; isolation levels (lines " ++ (numbers_text n ns ++ codes ") have no effect")

-- by the lines of the file that have one: nothing where there is none
abbrev pub no_effect : List ℕ → List (List ℕ)
no_effect [] = []
no_effect (n ∷ []) = one_level n ∷ []
no_effect (n ∷ m ∷ ns) = several_levels n (m ∷ ns) ∷ []

-- ---- where one is asked for

-- a level as SQL has it
abbrev pub level_name : Level → List ℕ
level_name Serializable = codes "SERIALIZABLE"
level_name Committed = codes "READ COMMITTED"

-- the one of the two that is not asked for
abbrev pub other_level : Level → Level
other_level Serializable = Committed
other_level Committed = Serializable

-- a level behind a semicolon
abbrev pub behind_semicolon : Level → List ℕ
behind_semicolon level = codes "; " ++ level_name level

abbrev pub one_line : ℕ → List ℕ
one_line n = codes " (line " ++ (decimal n ++ codes ")")

abbrev pub several_lines : ℕ → List ℕ → List ℕ
several_lines n ns = codes " (lines " ++ (numbers_text n ns ++ codes ")")

-- a level, and the lines of the file that have it: nothing where there are none
abbrev pub other_text : Level → List ℕ → List ℕ
other_text level [] = []
other_text level (n ∷ []) = behind_semicolon level ++ one_line n
other_text level (n ∷ m ∷ ns) = behind_semicolon level ++ several_lines n (m ∷ ns)

-- by the level that is asked for, and the lines of the file with the other one
abbrev pub asked_text : Level → List ℕ → List ℕ
asked_text level ns = codes "isolation level: " ++ (level_name level ++ other_text (other_level level) ns)

-- ---- the line of a head, where there is one

abbrev pub level_text : Option Level → List ℕ → List (List ℕ)
level_text None ns = no_effect ns
level_text (Some level) ns = asked_text level ns ∷ []
