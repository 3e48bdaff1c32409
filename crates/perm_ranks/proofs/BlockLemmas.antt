-- The words of a block that go on with a letter are a block.
use Rattle.std.proofs.Common.{◌≡◌, refl, sym, ap, ◌∙◌, subst, ℕ, zero, suc, ◌+◌, ◌-◌, ◌<◌, ◌≤◌, ◌^◌, List, [], ◌∷◌, ◌++◌, length, get_or, arith, append_assoc}
use Rattle.std.proofs.Common.{length-append}
use Rattle.perm_ranks.specs.Words.{Word, total, all_words, word_at}
use Rattle.perm_ranks.specs.Counting.{taken, words_starting, words_before}
use Rattle.perm_ranks.specs.Blocks.{Block, end_of, narrowed, IsBlockOf}
use Rattle.perm_ranks.proofs.CountLemmas.{length-split, length-taken, total-taken, get_or-le-total}
use Rattle.perm_ranks.proofs.PlaceLemmas.{left-within}
use Rattle.perm_ranks.proofs.EntryLemmas.{word_at-taken}

pub some-total : (counts : List ℕ) (letter : ℕ) → 0 < get_or counts letter 0 → 0 < total counts
some-total counts letter some = omega (arith, get_or-le-total counts letter, some)

-- the part of a block is inside it
pub narrowed-le : (b : Block) (letter : ℕ) → 0 < get_or b.left letter 0 → end_of (narrowed b letter) ≤ end_of b
narrowed-le b letter some =
    let part = length-split b.left letter (some-total b.left letter some) (left-within b.left letter some) in
    let len = length-taken b.left letter some in
    omega (arith, part, len)

pub narrowed-words : (counts : List ℕ) (shared : Word) (b : Block) (letter : ℕ) → 0 < get_or b.left letter 0 → IsBlockOf counts shared b → (i : ℕ)
    → i < length (all_words (taken b.left letter))
    → word_at counts ((narrowed b letter).first + i) ≡ (shared ++ letter ∷ []) ++ word_at (taken b.left letter) i
narrowed-words counts shared b letter some is i lt =
    let before = length (words_before b.left letter) in
    let part = length-split b.left letter (some-total b.left letter some) (left-within b.left letter some) in
    let len = length-taken b.left letter some in
    let place : b.first + before + i ≡ b.first + (before + i) = omega arith in
    let inside : before + i < length (all_words b.left) = omega (arith, part, len, lt) in
    let in_block : i < length (words_starting b.left letter) = omega (arith, len, lt) in
    ap (word_at counts) place
    ∙ is.words (before + i) inside
    ∙ ap (λ v. shared ++ v) (word_at-taken b.left letter (before + i) i (some-total b.left letter some) (left-within b.left letter some) refl in_block)
    ∙ sym (append_assoc shared (letter ∷ []) (word_at (taken b.left letter) i))

pub block-narrowed : (counts : List ℕ) (shared : Word) (b : Block) (letter : ℕ) → 0 < get_or b.left letter 0 → IsBlockOf counts shared b
    → IsBlockOf counts (shared ++ letter ∷ []) (narrowed b letter)
block-narrowed counts shared b letter some is = record {
  inside = (let le = narrowed-le b letter some in let all = is.inside in omega (arith, le, all));
  letters = (let one = total-taken b.left letter some in let all = is.letters in omega (arith, one, all, length-append shared (letter ∷ [])));
  words = narrowed-words counts shared b letter some is;
}
