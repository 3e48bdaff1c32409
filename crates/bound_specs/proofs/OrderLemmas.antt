-- The lines of a spec file.
use Rattle.std.proofs.Common.{◌≡◌, sym, subst, ◌∙◌, ℕ, ◌<◌, List, [], length, get_or, map, All, arith}
use Rattle.std.proofs.lemmas.List.{length-map}
use Rattle.std.proofs.lemmas.List.{get_or-map}
use Rattle.bound_specs.specs.Spec.{IsLine}

-- the steps of a line are known where each line is one
pub known-line : {X : Type 0} (items : X → List ℕ) (lines : List X) (n m rank : ℕ) (d : X) (line : List ℕ) → All (IsLine n) (map items lines) → n ≡ m
    → rank < length lines → line ≡ items (get_or lines rank d) → All (λ k. k < m) line
known-line items lines n m rank d line each same h e =
    let at : get_or (map items lines) rank [] ≡ line = get_or-map items lines rank d [] h ∙ sym e in
    let P : List ℕ → Type 0 = λ l. All (λ k. k < n) l in
    let known : All (λ k. k < n) line = subst P at (each rank [] (omega (arith, length-map lines items))).known in
    let Q : ℕ → Type 0 = λ s. All (λ k. k < s) line in
    subst Q same known
