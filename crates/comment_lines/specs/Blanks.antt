-- Blanks, and texts without those at their ends.
use Rattle.std.specs.Prelude.{ℕ, Bool, ◌||◌, ◌==◌, ◌-◌, List, length, take, drop}
use Rattle.std.specs.List.{prefix_len, suffix_len}

-- space, tab, carriage return, line feed
abbrev pub is_blank : ℕ → Bool
is_blank b = b == 32 || b == 9 || b == 13 || b == 10

-- what stands behind the blanks in front
abbrev pub after_blanks : List ℕ → List ℕ
after_blanks bs = drop (prefix_len is_blank bs) bs

-- what stands before the blanks at the end
abbrev pub before_blanks : List ℕ → List ℕ
before_blanks bs = take (length bs - suffix_len is_blank bs) bs

-- what stands between both
abbrev pub trimmed : List ℕ → List ℕ
trimmed bs = before_blanks (after_blanks bs)
