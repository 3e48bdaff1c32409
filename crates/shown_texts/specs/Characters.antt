-- Texts as lists of characters, as they are shown.
use Rattle.std.specs.Prelude.{ℕ, ◌-◌, Bool, cond, ◌||◌, ◌==◌, List, [], ◌∷◌, ◌++◌, length, replicate, reverse, chars, flat_map}
use Rattle.std.specs.Int.{is_in_range}
use Rattle.std.specs.Char.{is_control}
use Rattle.std.specs.Char.Escape.{escape_unicode}

-- marks that say how characters beside them are joined, shaped or ordered
abbrev pub is_joining : ℕ → Bool
is_joining c =
    c == 0x34f || c == 0x61c || is_in_range 0x17b4 0x17b5 c || is_in_range 0x180b 0x180f c || is_in_range 0x200b 0x200f c
    || is_in_range 0x2028 0x202e c || is_in_range 0x2060 0x206f c || is_in_range 0xfe00 0xfe0f c || is_in_range 0xe0000 0xe0fff c

-- other characters that show nothing
abbrev pub is_empty : ℕ → Bool
is_empty c =
    c == 0xad || is_in_range 0x115f 0x1160 c || c == 0x3164 || c == 0xfeff || c == 0xffa0 || is_in_range 0xfff0 0xfffb c
    || is_in_range 0x1bca0 0x1bca3 c || is_in_range 0x1d173 0x1d17a c

-- a character shows nothing, or steers a terminal
abbrev pub is_hidden : ℕ → Bool
is_hidden c = is_control c || is_joining c || is_empty c

-- a hidden character is shown by its number
abbrev pub visible : ℕ → List ℕ
visible c = cond (is_hidden c) (escape_unicode c) (c ∷ [])

-- the characters that are shown for a text in UTF-8
abbrev pub shown_text : List ℕ → List ℕ
shown_text bytes = flat_map visible (chars bytes)

abbrev pub blanks : ℕ → List ℕ
blanks n = replicate n 32

-- a text filled with blanks to a width
abbrev pub padded : ℕ → List ℕ → List ℕ
padded width text = text ++ blanks (width - length text)

abbrev pub without_blanks : List ℕ → List ℕ
without_blanks [] = []
without_blanks (c ∷ cs) = cond (c == 32) (without_blanks cs) (c ∷ cs)

-- a text without the blanks at its end
abbrev pub trimmed : List ℕ → List ℕ
trimmed text = reverse (without_blanks (reverse text))
