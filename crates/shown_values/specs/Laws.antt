-- Laws of the JSON of an order.
use Rattle.std.specs.Prelude.{◌≡◌, ℕ, ◌||◌, Bool, List, [], ◌∷◌, false}
use Rattle.std.specs.List.{list_any}
use Rattle.shown_values.specs.Strings.{is_markup, is_separator, string_json}
use Rattle.shown_values.specs.Page.{Sheet, page_json}

-- it has none of the signs that markup is made of
abbrev pub IsFree : List ℕ → Type 0
IsFree text = list_any is_markup text ≡ false

-- so no text ends the script that the object stands in, nor begins a reference
abbrev pub PagesAreFree : Type 0
PagesAreFree = (sheet : Sheet) → IsFree (page_json sheet)

-- a line separator stands somewhere in the text
abbrev pub has_separator : List ℕ → Bool
has_separator [] = false
has_separator (a ∷ []) = false
has_separator (a ∷ b ∷ []) = false
has_separator (a ∷ b ∷ c ∷ rest) = is_separator a b c || has_separator (b ∷ c ∷ rest)

-- no string has one
abbrev pub StringsAreWhole : Type 0
StringsAreWhole = (text : List ℕ) → has_separator (string_json text) ≡ false
