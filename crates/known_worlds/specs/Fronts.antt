-- How much two lines share.
use Rattle.std.specs.Prelude.{ℕ, suc, ◌==◌, cond, List, [], ◌∷◌}

-- how many items the lists begin with alike
abbrev pub front : List ℕ → List ℕ → ℕ
front [] ys = 0
front (x ∷ xs) [] = 0
front (x ∷ xs) (y ∷ ys) = cond (x == y) (suc (front xs ys)) 0
