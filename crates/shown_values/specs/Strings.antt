-- JSON strings that may stand in the script of a page, and arrays.
use Rattle.std.specs.Prelude.{ℕ, zero, suc, ◌/◌, ◌%◌, ◌==◌, ◌&&◌, ◌||◌, Bool, List, [], ◌∷◌, ◌++◌, codes, if◌then◌else◌}
use Rattle.std.specs.Char.{digit_char}
use Rattle.std.specs.List.{join_by}
use Rattle.json.specs.Print.{escape_byte}

-- what markup is made of: &, < or >
abbrev pub is_markup : ℕ → Bool
is_markup byte = (byte == 38) || (byte == 60) || (byte == 62)

-- a byte by its number
abbrev pub by_number : ℕ → List ℕ
by_number byte = codes "\\u00" ++ digit_char (byte / 16) ∷ digit_char (byte % 16) ∷ []

-- what stands in a string for a byte: what markup is made of by its number, another byte as in any JSON string
abbrev pub byte_text : ℕ → List ℕ
byte_text byte = if is_markup byte then by_number byte else escape_byte byte

-- the bytes of a line separator, U+2028 or U+2029
abbrev pub is_separator : ℕ → ℕ → ℕ → Bool
is_separator a b c = (a == 226) && (b == 128) && ((c == 168) || (c == 169))

-- the line separator with this last byte, by its number
abbrev pub separator_text : ℕ → List ℕ
separator_text c = if c == 168 then codes "\\u2028" else codes "\\u2029"

-- what stands in a string for a text
unfoldable pub escaped : List ℕ → List ℕ
escaped [] = []
escaped (a ∷ []) = byte_text a
escaped (a ∷ b ∷ []) = byte_text a ++ byte_text b
escaped (a ∷ b ∷ c ∷ rest) = if is_separator a b c then separator_text c ++ escaped rest else byte_text a ++ escaped (b ∷ c ∷ rest)

abbrev pub string_json : List ℕ → List ℕ
string_json text = codes "\"" ++ escaped text ++ codes "\""

-- what stands before the item at this place of a list
abbrev pub before_item : List ℕ → ℕ → List ℕ
before_item separator zero = []
before_item separator (suc place) = separator

abbrev pub array_json : {X : Type 0} → (X → List ℕ) → List X → List ℕ
array_json item items = codes "[" ++ join_by item (codes ",") items ++ codes "]"
