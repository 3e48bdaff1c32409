-- Where a piece of a text ends.
use Rattle.std.proofs.Common.{◌≡◌, sym, ap, subst, ◌∙◌, ℕ, zero, suc, ◌+◌, ◌<◌, ◌≤◌, List, length, drop, IsUtf8, arith, length-drop}
use Rattle.std.proofs.lemmas.List.{drop-drop}
use Rattle.std.proofs.lemmas.Str.{IsUtf8-drop, IsCharBoundary-from_rest}
use Rattle.std.specs.Str.{IsCharBoundary}
use Rattle.byte_runs.specs.Pieces.{CutsAt}

-- so many bytes of the text are passed, and the rest is a text
pub record HasPassed (text : List ℕ) (at : ℕ) (rest : List ℕ) : Type 0 where
  pub utf8 : IsUtf8 rest
  pub rest_is : rest ≡ drop at text
  pub within : at ≤ length text

pub passed-none : (text : List ℕ) → IsUtf8 text → text ≡ drop 0 text → HasPassed text 0 text
passed-none text utf8 e = record { utf8 = utf8; rest_is = e; within = omega arith }

-- one piece more
pub passed-more : (text : List ℕ) (at len : ℕ) (rest after : List ℕ) → HasPassed text at rest → CutsAt rest len → after ≡ drop len rest → HasPassed text (at + len) after
passed-more text at len rest after passed cuts e =
    let is : after ≡ drop (at + len) text = e ∙ ap (λ (bs : List ℕ). drop len bs) passed.rest_is ∙ drop-drop len at text in
    let long : length rest ≡ length (drop at text) = ap (λ (bs : List ℕ). length bs) passed.rest_is in
    let left : length (drop at text) ≡ _ = length-drop at text in
    record {
      utf8 = subst IsUtf8 (sym e) (IsUtf8-drop rest len passed.utf8 cuts.at_char);
      rest_is = is;
      within = omega (arith, passed.within, cuts.at_char.0, long, left);
    }

pub passed-shorter : (len : ℕ) (rest after : List ℕ) → CutsAt rest len → after ≡ drop len rest → length after < length rest
passed-shorter len rest after cuts e =
    let is : length after ≡ length (drop len rest) = ap (λ (bs : List ℕ). length bs) e in
    omega (arith, is, length-drop len rest, cuts.some, cuts.at_char.0)

-- the text may be cut behind what is passed and a part of the rest
pub passed-boundary : (text : List ℕ) (at len : ℕ) (rest : List ℕ) → HasPassed text at rest → IsCharBoundary rest len → IsCharBoundary text (at + len)
passed-boundary text at len rest passed here =
    IsCharBoundary-from_rest text at len passed.within (subst (λ (bs : List ℕ). IsCharBoundary bs len) passed.rest_is here)

-- something is passed or some of the text is left
pub passed-some : (text : List ℕ) (at len : ℕ) (rest : List ℕ) → HasPassed text at rest → (0 < length rest → 0 < len) → 0 < length text → 0 < at + len
passed-some text zero len rest passed some begun =
    let long : length rest ≡ length (drop 0 text) = ap (λ (bs : List ℕ). length bs) passed.rest_is in
    let left : 0 < length rest = omega (arith, long, length-drop 0 text, begun) in
    let here : 0 < len = some left in
    omega (arith, here)
passed-some text (suc at) len rest passed some begun = omega arith
