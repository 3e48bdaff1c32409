-- Places of names in lists of names, and lists of one or more.
use Rattle.std.specs.Prelude.{ℕ, Bool, false, ◌||◌, ◌==◌, List, [], ◌∷◌, ◌++◌, Option, Some, None, bytes_eq}
use Rattle.std.specs.List.{list_any, position_from}
use Rattle.sql_grammar.specs.Tree.{Chain, Last, More}

abbrev pub Name : Type 0
Name = List ℕ

-- where the name stands first
abbrev pub place_in : Name → List Name → Option ℕ
place_in name names = position_from (λ other. bytes_eq name other) 0 names

-- some number stands twice, or is one of those before
abbrev pub repeats : List ℕ → List ℕ → Bool
repeats before [] = false
repeats before (n ∷ ns) = list_any (λ m. m == n) before || repeats (before ++ n ∷ []) ns

-- a list of one or more, its first item, and those behind it
abbrev pub list_of : {A : Type 0} → Chain A → List A
list_of (Last x) = x ∷ []
list_of (More x c) = x ∷ list_of c

abbrev pub head : {A : Type 0} → Chain A → A
head (Last x) = x
head (More x c) = x

abbrev pub tail : {A : Type 0} → Chain A → List A
tail (Last x) = []
tail (More x c) = list_of c

abbrev pub maybe : {A : Type 0} → Option A → List A
maybe None = []
maybe (Some x) = x ∷ []
