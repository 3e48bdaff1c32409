-- The rank of the least word that begins with letters.
use Rattle.std.proofs.Common.{◌≡◌, refl, sym, ap, ◌∙◌, ℕ, ◌+◌, ◌<◌, ◌≤◌, List, [], ◌∷◌, ◌++◌, length, get_or, arith, Option, Some, None}
use Rattle.std.specs.Prelude.{option_map}
use Rattle.perm_ranks.specs.Words.{Word, total, all_words, word_at, place_of}
use Rattle.perm_ranks.specs.Counting.{taken, words_before, words_starting}
use Rattle.perm_ranks.proofs.CountLemmas.{get_or-le-total, length-split, length-taken}
use Rattle.perm_ranks.proofs.PlaceLemmas.{left-within, place_of-taken}
use Rattle.perm_ranks.proofs.EntryLemmas.{word_at-taken}
use Rattle.perm_ranks.proofs.SomeLemmas.{some-words}
use Rattle.perm_ranks.proofs.WordLemmas.{all_words-rise, entry-place, place-is}

-- each letter is left where it comes
abbrev pub AreLeft : List ℕ → Word → Type 0
AreLeft counts [] = Unit {0}
AreLeft counts (a ∷ s) = (0 < get_or counts a 0) × AreLeft (taken counts a) s

-- the rank of the least word that begins with these letters
abbrev pub word_rank : List ℕ → Word → ℕ
word_rank counts [] = 0
word_rank counts (a ∷ s) = length (words_before counts a) + word_rank (taken counts a) s

some-total : (counts : List ℕ) (a : ℕ) → 0 < get_or counts a 0 → 0 < total counts
some-total counts a some = omega (arith, get_or-le-total counts a)

pub rank-within : (counts : List ℕ) (s : Word) → AreLeft counts s → word_rank counts s < length (all_words counts)
rank-within counts [] h = some-words counts
rank-within counts (a ∷ s) h =
    let rest = rank-within (taken counts a) s h.1 in
    let part = length-split counts a (some-total counts a h.0) (left-within counts a h.0) in
    let len = length-taken counts a h.0 in
    omega arith

pub rank-begins : (counts : List ℕ) (s : Word) → AreLeft counts s → (t : Word) × (word_at counts (word_rank counts s) ≡ s ++ t)
rank-begins counts [] h = (word_at counts 0, refl)
rank-begins counts (a ∷ s) h =
    let rest = rank-begins (taken counts a) s h.1 in
    let inside : word_rank (taken counts a) s < length (words_starting counts a) = (let lt = rank-within (taken counts a) s h.1 in let len = length-taken counts a h.0 in omega arith) in
    (rest.0, word_at-taken counts a (word_rank counts (a ∷ s)) (word_rank (taken counts a) s) (some-total counts a h.0) (left-within counts a h.0) refl inside ∙ ap (λ v. a ∷ v) rest.1)

pub rank-least : (counts : List ℕ) (s : Word) → AreLeft counts s → (r : ℕ) → r < length (all_words counts) → (t : Word) → word_at counts r ≡ s ++ t → word_rank counts s ≤ r
rank-least counts [] h r lt t e = omega arith
rank-least counts (a ∷ s) h r lt t e = at (place_of (s ++ t) (all_words (taken counts a))) refl (λ q in' is. rank-least (taken counts a) s h.1 q in' t is)
  where
    found : place_of (a ∷ (s ++ t)) (all_words counts) ≡ Some r
    found = entry-place (all_words counts) (a ∷ (s ++ t)) r (all_words-rise counts) lt e

    parts : place_of (a ∷ (s ++ t)) (all_words counts) ≡ option_map (λ n. length (words_before counts a) + n) (place_of (s ++ t) (all_words (taken counts a)))
    parts = place_of-taken counts a (s ++ t) h.0

    at : (o : Option ℕ) → place_of (s ++ t) (all_words (taken counts a)) ≡ o
        → ((q : ℕ) → q < length (all_words (taken counts a)) → word_at (taken counts a) q ≡ s ++ t → word_rank (taken counts a) s ≤ q) → word_rank counts (a ∷ s) ≤ r
    at None is rec = absurd (let bad : ◌≡◌ {A = Option ℕ} None (Some r) = sym (parts ∙ ap (option_map (λ n. length (words_before counts a) + n)) is) ∙ found in cc)
    at (Some q) is rec =
        let both : Some (length (words_before counts a) + q) ≡ Some r = sym (parts ∙ ap (option_map (λ n. length (words_before counts a) + n)) is) ∙ found in
        let same : length (words_before counts a) + q ≡ r = cc in
        let place = place-is (s ++ t) (all_words (taken counts a)) q is in
        let le = rec q place.0 place.1 in
        omega arith
