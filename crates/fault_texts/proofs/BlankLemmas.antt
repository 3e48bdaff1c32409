-- White space in place of characters.
use Rattle.std.proofs.Common.{◌≡◌, sym, ap, ◌∙◌, ℕ, List, [], ◌∷◌, ◌++◌, map, ◌==◌, Bool, true, false, cond, arith}
use Rattle.std.proofs.lemmas.List.{map-append}
use Rattle.std.proofs.lemmas.List.Elements.{filter-append}
use Rattle.std.specs.List.{filter}
use Rattle.fault_texts.specs.Cutting.{blank, is_start}

abbrev white : ℕ → ℕ
white b = cond (b == 9) 9 32

pub blank-append : (front more : List ℕ) → blank (front ++ more) ≡ blank front ++ blank more
blank-append front more = ap (λ (bs : List ℕ). map white bs) (filter-append is_start front more)
    ∙ map-append white (filter is_start front) (filter is_start more)

blank-by : (b : ℕ) (starts : Bool) → is_start b ≡ starts → blank (b ∷ []) ≡ cond starts (white b ∷ []) []
blank-by b true is = ap (λ (t : Bool). map white (cond t (b ∷ []) [])) is
blank-by b false is = ap (λ (t : Bool). map white (cond t (b ∷ []) [])) is

pub blank-tab : (b : ℕ) → b ≡ 9 → 9 ∷ [] ≡ blank (b ∷ [])
blank-tab b is = ap (λ n. blank (n ∷ [])) (sym is)

pub blank-space : (b : ℕ) → (b ≡ 9 → ⊥) → is_start b ≡ true → 32 ∷ [] ≡ blank (b ∷ [])
blank-space b other is =
    let none : (b == 9) ≡ false = grind (arith, other) in
    sym (blank-by b true is ∙ ap (λ (t : Bool). cond t 9 32 ∷ []) none)

pub blank-rest : (b : ℕ) → is_start b ≡ false → [] ≡ blank (b ∷ [])
blank-rest b is = sym (blank-by b false is)
