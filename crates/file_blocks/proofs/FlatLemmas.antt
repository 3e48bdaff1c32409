-- What each item of a list gives, one item after another.
use Rattle.std.proofs.Common.{◌≡◌, refl, sym, ap, ◌∙◌, ℕ, ◌+◌, ◌<◌, List, [], ◌∷◌, ◌++◌, length, map, get_or, take, append_assoc}
use Rattle.std.proofs.lemmas.List.{map-append, take_more}
use Rattle.std.proofs.lemmas.Grind.{flat_map-append}
use Rattle.std.specs.List.{flat_map}

pub behind-nothing : {X : Type 0} (xs : List X) → xs ++ [] ≡ xs
behind-nothing [] = refl
behind-nothing (x ∷ xs) = ap (λ ys. x ∷ ys) (behind-nothing xs)

-- one item more
pub flat-more : {X A B : Type 0} (f : A → List B) (view : X → A) (xs : List X) (i : ℕ) (x : X) → x ≡ get_or xs i x → i < length xs
    → (all all' old : List B) → all' ≡ all ++ f (view x) → all ≡ old ++ flat_map f (map view (take i xs))
    → all' ≡ old ++ flat_map f (map view (take (i + 1) xs))
flat-more {X} f view xs i x is h all all' old e so_far =
    let front = flat_map f (map view (take i xs)) in
    let single : flat_map f (view (get_or xs i x) ∷ []) ≡ f (view x) =
    behind-nothing (f (view (get_or xs i x))) ∙ ap (λ (y : X). f (view y)) (sym is) in
    let step : flat_map f (map view (take (i + 1) xs)) ≡ front ++ f (view x) =
    ap (λ ys. flat_map f (map view ys)) (take_more xs i x h)
    ∙ ap (flat_map f) (map-append view (take i xs) (get_or xs i x ∷ []))
    ∙ flat_map-append f (map view (take i xs)) (view (get_or xs i x) ∷ [])
    ∙ ap (λ bs. front ++ bs) single in
    e ∙ ap (λ bs. bs ++ f (view x)) so_far ∙ append_assoc old front (f (view x)) ∙ ap (λ bs. old ++ bs) (sym step)
