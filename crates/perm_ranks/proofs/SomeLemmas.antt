-- Each shape has a word.
use Rattle.std.proofs.Common.{◌≡◌, refl, ℕ, zero, suc, ◌<◌, List, [], ◌∷◌, length, get_or, arith}
use Rattle.perm_ranks.specs.Words.{total, all_words}
use Rattle.perm_ranks.specs.Counting.{taken}
use Rattle.perm_ranks.proofs.CountLemmas.{length-split, length-taken, total-taken}
use Rattle.perm_ranks.proofs.PlaceLemmas.{left-within}

-- where letters are left, one is left of some session
some-left : (counts : List ℕ) → 0 < total counts → (letter : ℕ) × (0 < get_or counts letter 0)
some-left [] some = absurd (omega arith)
some-left (zero ∷ counts) some = let rest = some-left counts (omega arith) in (suc rest.0, rest.1)
some-left (suc count ∷ counts) some = (0, omega arith)

some-of : (n : ℕ) (counts : List ℕ) → total counts ≡ n → 0 < length (all_words counts)
some-of zero counts none = rw none (omega arith)
some-of (suc n) counts all =
    let some : 0 < total counts = omega (arith, all) in
    let left = some-left counts some in
    let fewer = total-taken counts left.0 left.1 in
    let rest = some-of n (taken counts left.0) (omega (arith, fewer, all)) in
    omega (arith, rest, length-taken counts left.0 left.1, length-split counts left.0 some (left-within counts left.0 left.1))

pub some-words : (counts : List ℕ) → 0 < length (all_words counts)
some-words counts = some-of (total counts) counts refl
