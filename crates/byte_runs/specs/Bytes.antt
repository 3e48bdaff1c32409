-- Bytes by their classes.
use Rattle.std.specs.Prelude.{ℕ, Bool, not, ◌||◌, ◌==◌, nat_le}
use Rattle.std.specs.Char.{is_ascii_digit, is_ascii_alphabetic}
use Rattle.byte_runs.specs.declared.runs.Class.{Class}
use Rattle.byte_runs.specs.declared.runs.Class.TheVariants as class

-- space, tab, carriage return, form feed, line feed
abbrev pub is_white : ℕ → Bool
is_white b = b == 32 || b == 9 || b == 13 || b == 12 || b == 10

-- a letter or _
abbrev pub begins_word : ℕ → Bool
begins_word b = is_ascii_alphabetic b || b == 95

-- a letter, _ or a byte of a character past ASCII
abbrev pub begins_name : ℕ → Bool
begins_name b = is_ascii_alphabetic b || b == 95 || nat_le 128 b

-- whether the byte is of the class
abbrev pub in_class : Class → ℕ → Bool
in_class class.Name b = begins_name b || is_ascii_digit b || b == 36
in_class class.Word b = begins_word b || is_ascii_digit b
in_class class.Digit b = is_ascii_digit b
in_class class.Comment b = not (b == 10)
in_class class.Block b = not (b == 125)
in_class class.DoubleQuoted b = not (b == 34)
in_class class.SingleQuoted b = not (b == 39)
