-- Values as they are written in a `row` line.
use Rattle.std.specs.Prelude.{◌≡◌, ◌≢◌, ℕ, Bool, true, false, ◌==◌, List, [], ◌∷◌, ◌++◌, Option, Some, None, ℤ, IsUtf8, FitsSigned, if◌then◌else◌}
use Rattle.std.specs.Fmt.{signed_decimal}
use Rattle.lock_modes.specs.declared.value.Value.{Value}
use Rattle.lock_modes.specs.declared.value.Value.TheVariants.{Int, Text}
use Rattle.transcripts.specs.Text.{value_text, quoted}
use Rattle.std.specs.Int.{w64}
use Rattle.statement_evaluation.specs.Effect.{consed}

-- a whole number of 64 bits, or a text
abbrev pub IsValue : Value → Type 0
IsValue (Int z) = FitsSigned w64 z
IsValue (Text text) = IsUtf8 text

-- the value is written so, or no value is
abbrev pub IsValueOf : List ℕ → Option Value → Type 0
IsValueOf word (Some v) = value_text v ≡ word
IsValueOf word None = (v : Value) → IsValue v → value_text v ≢ word

-- ---- numbers, and texts, by themselves

abbrev pub IsNumberOf : List ℕ → Option ℤ → Type 0
IsNumberOf word (Some z) = signed_decimal z ≡ word
IsNumberOf word None = (z : ℤ) → FitsSigned w64 z → signed_decimal z ≢ word

abbrev pub IsTextOf : List ℕ → Option (List ℕ) → Type 0
IsTextOf word (Some text) = quoted text ≡ word
IsTextOf word None = (text : List ℕ) → IsUtf8 text → quoted text ≢ word

-- between a quote, which is 39, and another
abbrev pub in_quotes : List ℕ → List ℕ
in_quotes inner = 39 ∷ (inner ++ 39 ∷ [])

-- what stands between quotes, or that nothing does
abbrev pub IsInside : List ℕ → Option (List ℕ) → Type 0
IsInside word (Some inner) = in_quotes inner ≡ word
IsInside word None = (inner : List ℕ) → in_quotes inner ≢ word

-- the text whose quotes stand twice here, or none where one stands once; behind the first of two quotes the second one is due
abbrev pub undoubled : (is_due : Bool) → List ℕ → Option (List ℕ)
undoubled false [] = Some []
undoubled true [] = None
undoubled false (b ∷ bs) = consed b (undoubled (b == 39) bs)
undoubled true (b ∷ bs) = if b == 39 then undoubled false bs else None
