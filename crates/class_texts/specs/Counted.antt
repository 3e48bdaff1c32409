-- Numbers, with commas, and with what is counted.
use Rattle.std.specs.Prelude.{ℕ, ◌%◌, ◌==◌, cond, List, [], ◌∷◌, ◌++◌, length, codes, decimal}

-- a comma stands where a multiple of three digits is left
abbrev pub comma_before : List ℕ → List ℕ
comma_before [] = []
comma_before (d ∷ ds) = cond (length (d ∷ ds) % 3 == 0) (codes ",") []

abbrev pub in_threes : List ℕ → List ℕ
in_threes [] = []
in_threes (d ∷ ds) = d ∷ comma_before ds ++ in_threes ds

abbrev pub number_text : ℕ → List ℕ
number_text n = in_threes (decimal n)

abbrev pub counted : ℕ → List ℕ → List ℕ → List ℕ
counted n one several = number_text n ++ (codes " " ++ cond (n == 1) one several)
