-- Lines that end with a number.
use Rattle.std.specs.Prelude.{ℕ, ◌++◌, List, codes, decimal}

abbrev pub number_line : ℕ → List ℕ
number_line n = decimal n ++ codes "\n"
