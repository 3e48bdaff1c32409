use Rattle.std.specs.Prelude.{◌≡◌, ℕ, ◌<◌, List, [], ◌∷◌, ◌++◌, length}
use Rattle.std.proofs.Common.{◌∙◌, sym, append-nil, arith}
use Rattle.shown_values.specs.Strings.{escaped}
use Rattle.shown_values.proofs.strings.push_escaped.Goals as goal

-- of no bytes nothing is pushed
none-left : (out : List ℕ) (left all : List ℕ) → length left < 1 → out ++ escaped left ≡ all → out ≡ all
unfolding escaped
none-left out [] all none is = sym (append-nil out) ∙ is
none-left out (byte ∷ left) all none is = absurd (omega arith)

-- nothing is left
pub returns : goal.returns
returns c = none-left _ _ _ c.in_default.len_below c.loop-left.invariant
