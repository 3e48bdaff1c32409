-- The limits of a spec file, and the rules on its names: they are unique, and those in permutation lines are known.
use Rattle.std.specs.Prelude.{◌≡◌, ℕ, ◌≤◌, Bool, true, false, List, [], ◌∷◌, ◌++◌, map, length, bytes_eq, ⊤}
use Rattle.std.specs.List.{list_any, AllByRecursion}
use Rattle.spec_reader.specs.declared.TheConstants.{MAX_ITEMS, MAX_LINES}
use Rattle.spec_reader.specs.Tree.{StepTree, SessionTree, MarkerTree, AnyTime, Before, Notices, ItemTree, SpecTree}

-- there are not too many permutation lines, and no line has too many items
pub record InLimits (f : SpecTree) : Type 0 where
  pub lines : length f.lines ≤ MAX_LINES
  pub items : AllByRecursion (λ l. length l ≤ MAX_ITEMS) f.lines

-- ---- the rules on names

-- whether the name is among these, byte by byte
abbrev pub is_among : List ℕ → List (List ℕ) → Bool
is_among name names = list_any (bytes_eq name) names

-- the two lists have the same names
abbrev pub HaveSame : List (List ℕ) → List (List ℕ) → Type 0
HaveSame names others = (n : List ℕ) → is_among n names ≡ is_among n others

-- none of the names stands before, or a second time
abbrev pub AreNew : List (List ℕ) → List (List ℕ) → Type 0
AreNew before [] = ⊤
AreNew before (n ∷ ns) = (is_among n before ≡ false) × AreNew (before ++ n ∷ []) ns

-- the names of these steps
abbrev pub names_in : List StepTree → List (List ℕ)
names_in steps = map (λ s. s.name) steps

-- the names of the steps of these sessions
abbrev pub step_names : List SessionTree → List (List ℕ)
step_names [] = []
step_names (s ∷ ss) = names_in s.steps ++ step_names ss

-- the names of these sessions
abbrev pub session_names : List SessionTree → List (List ℕ)
session_names ss = map (λ s. s.head.name) ss

-- the name is one of these
abbrev pub IsKnown : List (List ℕ) → List ℕ → Type 0
IsKnown names n = is_among n names ≡ true

-- so is the name in the marker, if it has one
abbrev pub MarkerIsKnown : List (List ℕ) → MarkerTree → Type 0
MarkerIsKnown names AnyTime = ⊤
MarkerIsKnown names (Before n) = IsKnown names n
MarkerIsKnown names (Notices n) = IsKnown names n

-- so are the names in the item and in its markers
pub record ItemIsKnown (names : List (List ℕ)) (i : ItemTree) : Type 0 where
  pub name : IsKnown names i.name
  pub markers : AllByRecursion (MarkerIsKnown names) i.markers

-- no two sessions and no two steps of the file have one name, and each name in a permutation line is that of a step
pub record HasNames (f : SpecTree) : Type 0 where
  pub of_sessions : AreNew [] (session_names f.sessions)
  pub of_steps : AreNew [] (step_names f.sessions)
  pub in_lines : AllByRecursion (AllByRecursion (ItemIsKnown (step_names f.sessions))) f.lines
