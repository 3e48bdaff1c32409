-- Names that are cut to a width, and numbered where they are the same then.
use Rattle.std.specs.Prelude.{ℕ, zero, suc, ◌+◌, ◌-◌, nat_le, nat_lt, Bool, cond, List, [], ◌∷◌, ◌++◌, length, map, take, get_or, codes, decimal, bytes_eq}
use Rattle.std.specs.List.{list_all}

-- the front of a text that is too long, with a tilde behind it
abbrev pub cut : ℕ → List ℕ → List ℕ
cut most text = cond (nat_le (length text) most) text (take (most - 1) text ++ codes "~")

-- a number behind a cut name, together no wider
abbrev pub numbered : ℕ → List ℕ → ℕ → List ℕ
numbered most name number = cut (most - 1 - length (decimal number)) name ++ (codes "#" ++ decimal number)

-- how many of these texts are this one
abbrev pub times : List ℕ → List (List ℕ) → ℕ
times text [] = zero
times text (t ∷ ts) = cond (bytes_eq text t) (suc (times text ts)) (times text ts)

-- a cut name, with its number where several of the cut names are the same
abbrev pub cut_or_numbered : ℕ → List (List ℕ) → List ℕ → ℕ → List ℕ
cut_or_numbered most cuts name number = cond (nat_lt 1 (times (cut most name) cuts)) (numbered most name number) (cut most name)

-- the names are numbered from this number on
abbrev pub some_numbered : ℕ → List (List ℕ) → ℕ → List (List ℕ) → List (List ℕ)
some_numbered most cuts number [] = []
some_numbered most cuts number (name ∷ names) = cut_or_numbered most cuts name number ∷ some_numbered most cuts (number + 1) names

abbrev pub all_numbered : ℕ → ℕ → List (List ℕ) → List (List ℕ)
all_numbered most number [] = []
all_numbered most number (name ∷ names) = numbered most name number ∷ all_numbered most (number + 1) names

-- no other of the texts is this one
abbrev pub is_once : List (List ℕ) → List ℕ → Bool
is_once texts text = nat_le (times text texts) 1

abbrev pub are_different : List (List ℕ) → Bool
are_different texts = list_all (is_once texts) texts

-- these, where no two are the same, else the others
abbrev pub if_different : List (List ℕ) → List (List ℕ) → List (List ℕ)
if_different texts others = cond (are_different texts) texts others

-- the names shortened to a width
abbrev pub shortened : ℕ → List (List ℕ) → List (List ℕ)
shortened most names = if_different (some_numbered most (map (cut most) names) 0 names) (all_numbered most 0 names)

abbrev pub name_at : List (List ℕ) → ℕ → List ℕ
name_at names place = get_or names place []
