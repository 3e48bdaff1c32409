-- Parts pushed one behind the other.
use Rattle.std.specs.Prelude.{◌≡◌, ℕ, List, ◌++◌, Result, Ok, Err, OnOk}
use Rattle.std.proofs.Common.{◌∙◌, ap, append_assoc}

-- two parts, and then a last one if there is room
pub three : {A E : Type 0} (r : Result A E) (old a b c new : List ℕ) {first second : List ℕ}
    → first ≡ old ++ a → second ≡ first ++ b → OnOk r (new ≡ second ++ c) → OnOk r (new ≡ old ++ (a ++ b ++ c))
three (Ok _) old a b c new e f g =
    g ∙ ap (λ out. out ++ c) (f ∙ ap (λ out. out ++ b) e) ∙ ap (λ out. out ++ c) (append_assoc old a b) ∙ append_assoc old (a ++ b) c
three (Err _) old a b c new e f g = g
