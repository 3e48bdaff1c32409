-- What is shown of a line that is long: a part of it round a place.
use Rattle.std.specs.Prelude.{ℕ, suc, ◌+◌, ◌-◌, ◌==◌, nat_lt, nat_le, ◌||◌, ◌&&◌, Bool, List, [], ◌∷◌, ◌++◌, length, map, filter, take, drop, codes, cond}
use Rattle.std.specs.Prelude.{if◌then◌else◌}
use Rattle.fault_texts.specs.declared.TheConstants.{MAX_SHOWN, MAX_BESIDE}

-- a character of a text begins with such a byte
abbrev pub is_start : ℕ → Bool
is_start b = nat_lt b 128 || nat_le 192 b

-- a space for each character, but tabs as they are
abbrev pub blank : List ℕ → List ℕ
blank shown = map (λ b. cond (b == 9) 9 32) (filter is_start shown)

-- how many characters a text has
abbrev pub width : List ℕ → ℕ
width shown = length (blank shown)

-- no byte of the first characters, of which so many are left, stands here any more
abbrev pub ends : ℕ → ℕ → Bool
ends left b = left == 0 && is_start b

-- how many of the characters are left behind this byte
abbrev pub left_behind : ℕ → ℕ → ℕ
left_behind left b = if is_start b then left - 1 else left

-- how many bytes the first characters take, so many of them
abbrev pub bytes_of : ℕ → List ℕ → ℕ
bytes_of left [] = 0
bytes_of left (b ∷ bs) = cond (ends left b) 0 (suc (bytes_of (left_behind left b) bs))

-- the text up to a place is cut at its front, and the text from there on at its end
abbrev pub cut_front : List ℕ → List ℕ
cut_front front = if nat_lt MAX_BESIDE (width front) then codes ".." ++ drop (bytes_of (width front - MAX_BESIDE) front) front else front

abbrev pub cut_behind : List ℕ → List ℕ
cut_behind behind = if nat_lt MAX_BESIDE (width behind) then take (bytes_of MAX_BESIDE behind) behind ++ codes ".." else behind

-- only a line of more characters than are shown is cut
abbrev pub is_long : List ℕ → List ℕ → Bool
is_long front behind = nat_lt MAX_SHOWN (width front + width behind)

abbrev pub front_shown : List ℕ → List ℕ → List ℕ
front_shown front behind = if is_long front behind then cut_front front else front

abbrev pub behind_shown : List ℕ → List ℕ → List ℕ
behind_shown front behind = if is_long front behind then cut_behind behind else behind
