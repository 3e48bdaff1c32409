-- What stands in a string for a text, byte by byte.
use Rattle.std.specs.Prelude.{◌≡◌, refl, ℕ, suc, ◌-◌, ◌≤◌, true, false, List, [], ◌∷◌, ◌++◌, length, get_or, take, drop}
use Rattle.std.proofs.Common.{sym, arith, append-nil}
use Rattle.std.proofs.lemmas.List.{take_all}
use Rattle.shown_values.specs.Strings.{byte_text, escaped, is_separator, separator_text}

-- a text that begins with a line separator
pub separator-first : (a : ℕ) (rest : List ℕ) → 2 ≤ length rest → is_separator a (get_or rest 0 0) (get_or rest 1 0) ≡ true
    → escaped (a ∷ rest) ≡ separator_text (get_or rest 1 0) ++ escaped (take (length rest - 2) (drop 2 rest))
unfolding escaped
separator-first a [] some is = absurd (omega arith)
separator-first a (b ∷ []) some is = absurd (omega arith)
separator-first a (b ∷ c ∷ rest) some is = rw (is, take_all (suc (suc (length rest)) - 2) rest (omega arith))

-- a text that begins with another byte, with two bytes behind it, and with fewer
pub byte-first : (a : ℕ) (rest : List ℕ) → 2 ≤ length rest → is_separator a (get_or rest 0 0) (get_or rest 1 0) ≡ false
    → escaped (a ∷ rest) ≡ byte_text a ++ escaped rest
unfolding escaped
byte-first a [] some is = absurd (omega arith)
byte-first a (b ∷ []) some is = absurd (omega arith)
byte-first a (b ∷ c ∷ rest) some is = rw is

pub few-first : (a : ℕ) (rest : List ℕ) → length rest ≤ 1 → escaped (a ∷ rest) ≡ byte_text a ++ escaped rest
unfolding escaped
few-first a [] few = sym (append-nil (byte_text a))
few-first a (b ∷ []) few = refl
few-first a (b ∷ c ∷ rest) few = absurd (omega arith)
