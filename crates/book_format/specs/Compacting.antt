-- Texts of one JSON value.
use Rattle.std.specs.Prelude.{◌≡◌, ◌↔◌, ℕ, Bool, true, List, [], ◌∷◌, ◌++◌}
use Rattle.json.specs.Token.{Token}
use Rattle.json.specs.Print.{ArePrintable, IsPrintable}
use Rattle.json.specs.Written.{Written}
use Rattle.serde_json.specs.Data.{Data}
use Rattle.book_format.specs.ReadingBooks.{IsValueOf}

-- both are texts of the same value, or neither is the text of one
abbrev pub AreAlike : List ℕ → List ℕ → Type 0
AreAlike a b = (d : Data) → IsValueOf a d ↔ IsValueOf b d

-- ---- what the code keeps

-- of all tokens the first ones are written, and these are left
pub record IsCopied (all left : List Token) (written : Written) : Type 0 where
  pub before : written.before ≡ []
  pub parts : written.tokens ++ left ≡ all
  pub printable : ArePrintable written.tokens

-- a token that can be written is written, if the answer is yes
abbrev pub TakesToken : Written → Written → Token → Bool → Type 0
TakesToken old new t taken = taken ≡ true → (new.before ≡ old.before) × (new.tokens ≡ old.tokens ++ t ∷ []) × IsPrintable t
