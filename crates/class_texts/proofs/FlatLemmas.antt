-- Lists that are put together.
use Rattle.std.proofs.Common.{◌≡◌, ℕ, zero, suc, ◌+◌, ◌<◌, List, [], ◌∷◌, ◌++◌, length, get_or, take, flat_map, sym, ap, ◌∙◌}
use Rattle.std.proofs.Common.{append-nil, append_assoc, add-one, arith, Result, Ok, Err, OnOk}

flat-one : {X A : Type 0} (f : X → List A) (xs : List X) (i : ℕ) (x : X) → i < length xs → x ≡ get_or xs i x
    → flat_map f (take i xs) ++ f x ≡ flat_map f (take (suc i) xs)
flat-one f [] i x lt is = absurd (omega (arith, lt))
flat-one f (y ∷ ys) zero x lt is = ap f is ∙ sym (append-nil (f y))
flat-one f (y ∷ ys) (suc i) x lt is =
    append_assoc (f y) (flat_map f (take i ys)) (f x) ∙ ap (λ rest. f y ++ rest) (flat-one f ys i x (omega (arith, lt)) is)

-- with one more, where those before are put together
pub flat-next : {X A : Type 0} (f : X → List A) (xs : List X) (i : ℕ) (x : X) (all more : List A) → i < length xs → x ≡ get_or xs i x
    → all ≡ flat_map f (take i xs) → more ≡ all ++ f x → more ≡ flat_map f (take (i + 1) xs)
flat-next f xs i x all more lt is so next = rw add-one (next ∙ ap (λ front. front ++ f x) so ∙ flat-one f xs i x lt is)

-- two parts, the last one if there is room
pub two : {A E X : Type 0} (r : Result A E) (old a b new first : List X) → first ≡ old ++ a → OnOk r (new ≡ first ++ b) → OnOk r (new ≡ old ++ (a ++ b))
two (Ok done) old a b new first e f = f ∙ ap (λ out. out ++ b) e ∙ append_assoc old a b
two (Err error) old a b new first e f = f
