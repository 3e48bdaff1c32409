-- The fact of a rank from the exchanges of its word.
use Rattle.std.proofs.Common.{◌≡◌, refl, sym, ap, ◌∙◌, subst, ℕ, suc, ◌+◌, ◌-◌, ◌<◌, ◌≤◌, Bool, true, false, ◌&&◌, List, [], ◌∷◌, ◌++◌, length, get_or, ◌⊎◌}
use Rattle.std.proofs.Common.{⊎_elim, arith, append-nil}
use Rattle.perm_ranks.specs.Words.{Word, total, words_of, all_words, word_at}
use Rattle.perm_ranks.specs.Counting.{taken, words_starting, words_before}
use Rattle.perm_ranks.specs.Blocks.{Block, HasRank, narrowed}
use Rattle.perm_ranks.proofs.CountLemmas.{length-split, length-taken}
use Rattle.perm_ranks.proofs.PlaceLemmas.{left-within}
use Rattle.perm_ranks.proofs.EntryLemmas.{word_at-taken}
use Rattle.perm_ranks.proofs.SomeLemmas.{some-words}
use Rattle.perm_ranks.proofs.BlockLemmas.{some-total}
use Rattle.perm_ranks.proofs.WordLemmas.{Takes, done, takes, words-take, each-at}
use Rattle.bound_specs.specs.Spec.{line, line_by, line_of, ranks, ranks_by, counts_of, queues_of}
use Rattle.machine_model.specs.World.{World, outcome_of}
use Rattle.machine_model.specs.Start.{Started}
use Rattle.machine_model.specs.Outcome.{outcome_of_line}
use Rattle.machine_model.proofs.Basics.{both_true, and_true}
use Rattle.rank_facts.specs.Swap.{IsSwap, quiet_at, falls_at, word_of}
use Rattle.rank_facts.specs.Facts.{IsTrueAt, IsFactOf}
use Rattle.rank_facts.specs.declared.fact.Fact.TheVariants.{Ran, Swap}
use Rattle.rank_facts.proofs.Leading.{outcome-started}
use Rattle.rank_facts.proofs.Lines.{spec-letters}
use Rattle.step_reducer.specs.Reduced.{Tour, world_after, has_swap, IsTour, IsPlace}
use Rattle.step_reducer.proofs.Prefixes.{falls-short}

-- ---- the facts of a spec without lines

module _ (t : Tour) (r : ℕ) (u : Word) (is : IsTour t) (word : word_of t.spec r ≡ u) (lt : r < length (all_words (counts_of (queues_of t.spec)))) where
  in-ranks : r < ranks t.spec
  in-ranks = subst (λ ls. r < ranks_by ls (queues_of t.spec)) (sym is.words) lt

  -- what the tour takes for a swap is a true one
  true-swap : (k : ℕ) → has_swap t k u ≡ true → IsTrueAt t.spec r (Swap k)
  true-swap k here =
      let parts = both_true t.reduce _ here in
      let both = both_true (falls_at k u) _ parts.1 in
      let falls : falls_at k (word_of t.spec r) ≡ true = ap (falls_at k) word ∙ both.0 in
      let swap : IsSwap t.spec t.world r k = record {
        words = is.words;
        falls = falls;
        quiet = sym (spec-letters t.spec t.world r k is.words falls) ∙ ap (quiet_at t.spec.steps t.world (queues_of t.spec) k) word ∙ both.1;
      } in
      (in-ranks, (t.world, is.starts, swap))

  -- and it takes each true one for a swap
  has-true : (k : ℕ) → t.reduce ≡ true → IsTrueAt t.spec r (Swap k) → has_swap t k u ≡ true
  has-true k reduce fact =
      let same : fact.1.0 ≡ t.world = (let e : Started fact.1.0 ≡ Started t.world = sym fact.1.1 ∙ is.starts in cc) in
      let swap : IsSwap t.spec t.world r k = subst (λ w. IsSwap t.spec w r k) same fact.1.2 in
      and_true t.reduce _ reduce (and_true (falls_at k u) _ (ap (falls_at k) (sym word) ∙ swap.falls)
      (ap (quiet_at t.spec.steps t.world (queues_of t.spec) k) (sym word) ∙ spec-letters t.spec t.world r k is.words swap.falls ∙ swap.quiet))

  never : (k : ℕ) → has_swap t k u ≡ false → t.reduce ≡ true → IsTrueAt t.spec r (Swap k) → ⊥
  never k none reduce fact = (let bad : false ≡ true = sym none ∙ has-true k reduce fact in cc)

  fact-swap : (k : ℕ) → ((m : ℕ) → m < k → has_swap t m u ≡ false) → has_swap t k u ≡ true → IsFactOf t.reduce t.spec r (Swap k)
  fact-swap k below here =
      let reduce = (both_true t.reduce _ here).0 in
      (reduce, (true-swap k here, λ m less fact. never m (below m less) reduce fact))

  fact-ran : ((m : ℕ) → has_swap t m u ≡ false) → IsFactOf t.reduce t.spec r (Ran (outcome_of t.spec.sessions (world_after t u)))
  fact-ran none =
      let same : line_of t.spec r ≡ line (queues_of t.spec) u = ap (λ ls. line_by ls (queues_of t.spec) r) is.words ∙ ap (line (queues_of t.spec)) word in (
        (in-ranks, ap (λ l. outcome_of_line t.spec l) same ∙ outcome-started t.spec t.world (line (queues_of t.spec) u) is.starts),
        λ reduce m fact. never m (none m) reduce fact,
      )

-- ---- at a place

-- the word at this place of the block goes on with a letter that makes a swap with the last one
pub swap-at : (t : Tour) (p : Word) (block : Block) (world : World) (swaps : List Bool) (i b k : ℕ) (v : Word)
    → IsTour t → IsPlace t p block world swaps → i < length (all_words block.left) → word_at block.left i ≡ b ∷ v → get_or swaps b false ≡ true
    → 0 < total block.left → suc k ≡ length p
    → IsFactOf t.reduce t.spec (block.first + i) (Swap k)
swap-at t p block world swaps i b k v tour is lt word listed some last =
    let inside = is.ranks.inside in
    fact-swap t (block.first + i) (p ++ b ∷ v) tour (is.ranks.words i lt ∙ ap (λ u. p ++ u) word) (omega (arith, inside, lt)) k
    (λ m less. is.settled m (b ∷ v) (omega arith)) (is.pairs k b v last ∙ listed)

-- where no letter is left, the letters are the word of the only rank
word-alone : (t : Tour) (p : Word) (block : Block) (world : World) (swaps : List Bool) → IsPlace t p block world swaps → total block.left ≡ 0
    → word_at (counts_of (queues_of t.spec)) block.first ≡ p
word-alone t p block world swaps is none =
    let first : block.first ≡ block.first + 0 = omega arith in
    let empty : word_at block.left 0 ≡ [] = ap (λ n. get_or (words_of n block.left) 0 []) none in
    ap (word_at (counts_of (queues_of t.spec))) first ∙ is.ranks.words 0 (some-words block.left) ∙ ap (λ u. p ++ u) empty ∙ append-nil p

-- its fact is the outcome
pub ran-at : (t : Tour) (p : Word) (block : Block) (world : World) (swaps : List Bool) → IsTour t → IsPlace t p block world swaps → total block.left ≡ 0
    → IsFactOf t.reduce t.spec block.first (Ran (outcome_of t.spec.sessions world))
ran-at t p block world swaps tour is none =
    let some = some-words block.left in
    let word = word-alone t p block world swaps is none in
    let inside = is.ranks.inside in
    subst (λ w. IsFactOf t.reduce t.spec block.first (Ran (outcome_of t.spec.sessions w))) (sym is.world_is)
    (fact-ran t block.first p tour word (omega (arith, inside, some)) (λ m. none-at m))
  where
    none-at : (m : ℕ) → has_swap t m p ≡ false
    none-at m =
        let cases : (m + 2 ≤ length p) ⊎ (length p ≤ m + 1) = grind arith in
        ⊎_elim (λ h. ap (has_swap t m) (sym (append-nil p)) ∙ is.settled m [] h)
        (λ h. ap (λ f. t.reduce && (f && quiet_at t.spec.steps t.world (queues_of t.spec) m p)) (falls-short m p h) ∙ and-false t.reduce) cases
      where
        and-false : (r : Bool) → (r && false) ≡ false
        and-false true = refl
        and-false false = refl

-- the words that go on with such a letter
pub swap-within : (t : Tour) (p : Word) (block : Block) (world : World) (swaps : List Bool) (a k r : ℕ)
    → IsTour t → IsPlace t p block world swaps → 0 < get_or block.left a 0 → get_or swaps a false ≡ true → suc k ≡ length p → HasRank (narrowed block a) r
    → IsFactOf t.reduce t.spec r (Swap k)
swap-within t p block world swaps a k r tour is left listed last has =
    let before = length (words_before block.left a) in
    let i = r - (narrowed block a).first in
    let from = has.0 in
    let to = has.1 in
    let some = some-total block.left a left in
    let within = left-within block.left a left in
    let part = length-split block.left a some within in
    let len = length-taken block.left a left in
    let same : block.first + (before + i) ≡ r = omega arith in
    let inside : before + i < length (all_words block.left) = omega (arith, part, len) in
    let in_block : i < length (words_starting block.left a) = omega (arith, len) in
    subst (λ n. IsFactOf t.reduce t.spec n (Swap k)) same
    (swap-at t p block world swaps (before + i) a k (word_at (taken block.left a) i) tour is inside
    (word_at-taken block.left a (before + i) i some within refl in_block) listed some last)

-- ---- the first letter of a word

pub record Begins (counts : List ℕ) (word : Word) : Type 0 where
  pub letter : ℕ
  pub rest : Word
  pub is : word ≡ letter ∷ rest
  pub left : 0 < get_or counts letter 0

begins-of : (n : ℕ) (counts : List ℕ) (word : Word) → Takes n counts word → 0 < n → Begins counts word
begins-of _ counts _ done some = absurd (omega arith)
begins-of _ counts _ (takes {n = n} {i = i} {c = c} {v = v} lt is t) some = record { letter = i; rest = v; is = refl; left = omega (arith, is) }

pub begins : (counts : List ℕ) (i : ℕ) → 0 < total counts → i < length (all_words counts) → Begins counts (word_at counts i)
begins counts i some lt =
    begins-of (total counts) counts (word_at counts i) (each-at (Takes (total counts) counts) (all_words counts) i lt (words-take (total counts) counts)) some

-- each letter that is left makes a swap with the last one
pub swap-all : (t : Tour) (p : Word) (block : Block) (world : World) (swaps : List Bool) (k r : ℕ)
    → IsTour t → IsPlace t p block world swaps → 0 < total block.left → ((b : ℕ) → 0 < get_or block.left b 0 → get_or swaps b false ≡ true) → suc k ≡ length p
    → HasRank block r
    → IsFactOf t.reduce t.spec r (Swap k)
swap-all t p block world swaps k r tour is some all last has =
    let i = r - block.first in
    let from = has.0 in
    let to = has.1 in
    let same : block.first + i ≡ r = omega arith in
    let inside : i < length (all_words block.left) = omega arith in
    let b = begins block.left i some inside in
    subst (λ n. IsFactOf t.reduce t.spec n (Swap k)) same
    (swap-at t p block world swaps i b.letter k b.rest tour is inside b.is (all b.letter b.left) some last)
