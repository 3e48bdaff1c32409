-- Where a byte of a text stands.
use Rattle.std.specs.Prelude.{ℕ, suc, Bool, not, ◌+◌, ◌-◌, ◌==◌, List, [], ◌∷◌, length, take, drop, reverse, cond}
use Rattle.std.specs.List.{take_while}
use Rattle.fault_texts.specs.declared.place.Place.{Place}
use Rattle.fault_texts.specs.declared.place.Front.{Front}

-- a line feed ends a line
abbrev pub is_line_end : ℕ → Bool
is_line_end b = b == 10

-- how many of these bytes pass the test
abbrev pub count : (ℕ → Bool) → List ℕ → ℕ
count test [] = 0
count test (b ∷ bs) = cond (test b) (suc (count test bs)) (count test bs)

-- what stands in front of the first line end, and behind the last one
abbrev pub first_line : List ℕ → List ℕ
first_line text = take_while (λ b. not (is_line_end b)) text

abbrev pub last_line : List ℕ → List ℕ
last_line text = reverse (first_line (reverse text))

-- the number of the line in which these bytes end, and how many of them stand on that line
abbrev pub front : List ℕ → Front
front before = record { line = count is_line_end before + 1; bytes = length (last_line before) }

-- the place between two parts of a text: its line, and the bytes in front of that, of itself and of the line's end
abbrev pub between : List ℕ → List ℕ → Place
between before behind = record {
  line = (front before).line;
  begin = length before - (front before).bytes;
  at = length before;
  end = length before + length (first_line behind);
}

-- the place of the byte at an offset
abbrev pub place : List ℕ → ℕ → Place
place text offset = between (take offset text) (drop offset text)
