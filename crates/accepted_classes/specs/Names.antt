-- The names of spec files and of their accepted texts.
use Rattle.std.specs.Prelude.{◌≡◌, ◌≢◌, ◌⊎◌, ℕ, ◌<◌, ◌++◌, List, length, get_or, codes}

-- the path without the end of a spec file's, or the whole of it where it ends otherwise
abbrev pub IsStem : List ℕ → List ℕ → Type 0
IsStem path stem = (path ≡ stem ++ codes ".spec") ⊎ ((stem ≡ path) × ((front : List ℕ) → path ≢ front ++ codes ".spec"))

-- the accepted text of a spec file lies beside it, with another end
abbrev pub IsAcceptedPath : List ℕ → List ℕ → Type 0
IsAcceptedPath path accepted = (stem : List ℕ) × IsStem path stem × (accepted ≡ stem ++ codes ".accepted")

abbrev pub HasNoSlash : List ℕ → Type 0
HasNoSlash name = (place : ℕ) → place < length name → get_or name place 0 ≢ 47

-- what stands behind the last slash
abbrev pub IsFileName : List ℕ → List ℕ → Type 0
IsFileName path name = HasNoSlash name × ((name ≡ path) ⊎ ((folder : List ℕ) × (path ≡ folder ++ (codes "/" ++ name))))
