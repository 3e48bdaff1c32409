-- How far the lines of two ranks are alike whose words part behind some letters, and how long a line is.
use Rattle.std.proofs.Common.{◌≡◌, ◌≢◌, refl, sym, ap, ◌∙◌, ℕ, suc, ◌+◌, ◌-◌, ◌<◌, ◌≤◌, Bool, List, [], ◌∷◌, ◌++◌, length, set, get_or, Option, Some}
use Rattle.std.proofs.Common.{None, option_map, arith, append_assoc, length-append}
use Rattle.perm_ranks.specs.Words.{Word, total, all_words, word_at, place_of}
use Rattle.perm_ranks.specs.Counting.{taken, words_before}
use Rattle.perm_ranks.specs.Blocks.{Block, HasRank, end_of, narrowed}
use Rattle.perm_ranks.proofs.BlockLemmas.{block-narrowed, some-total}
use Rattle.perm_ranks.proofs.PlaceLemmas.{place_of-taken}
use Rattle.perm_ranks.proofs.WordLemmas.{Takes, done, takes, takes-length, words-take, each-at, entry-place, place-is, all_words-rise}
use Rattle.bound_specs.specs.Spec.{no_step, Spec, Queues, line, line_by, line_of, counts_of, queues_of}
use Rattle.bound_specs.proofs.WalkLemmas.{get_or-counts, counts-set}
use Rattle.machine_model.specs.World.{World}
use Rattle.rank_facts.proofs.Swaps.{line-at}
use Rattle.known_worlds.specs.Fronts.{front}
use Rattle.step_reducer.specs.Reduced.{rest_after, tour_of, LeftOf, IsPlace}
use Rattle.step_reducer.proofs.FactsAt.{begins}
use Rattle.known_worlds.proofs.FrontLemmas.{front-behind, front-apart}
use Rattle.step_reducer.proofs.Tables.{step-owned, drop-some}

-- ---- the line of a word by its front

-- behind some letters the line goes on with what is left
line-behind : (q : Queues) (p v : Word) → line q (p ++ v) ≡ line q p ++ line (rest_after q p) v
line-behind q [] v = refl
line-behind q (a ∷ p) v = at (get_or q a []) (line-behind q p v) (λ n ns. line-behind (set q a ns) p v)
  where
    at : (x : List ℕ) → line q (p ++ v) ≡ line q p ++ line (rest_after q p) v
        → ((n : ℕ) (ns : List ℕ) → line (set q a ns) (p ++ v) ≡ line (set q a ns) p ++ line (rest_after (set q a ns) p) v)
        → (let l : List ℕ = elim x [ [] ↦ line q (p ++ v) | n ∷ ns ↦ n ∷ line (set q a ns) (p ++ v) ] in l)
        ≡ (let l : List ℕ = elim x [ [] ↦ line q p | n ∷ ns ↦ n ∷ line (set q a ns) p ] in
        let r : Queues = elim x [ [] ↦ rest_after q p | n ∷ ns ↦ rest_after (set q a ns) p ] in l ++ line r v)
    at [] here there = here
    at (n ∷ ns) here there = ap (λ l. n ∷ l) (there n ns)

line-le : (q : Queues) (v : Word) → length (line q v) ≤ length v
line-le q [] = omega arith
line-le q (a ∷ v) = at (get_or q a []) (line-le q v) (λ ns. line-le (set q a ns) v)
  where
    at : (x : List ℕ) → length (line q v) ≤ length v → ((ns : List ℕ) → length (line (set q a ns) v) ≤ length v)
        → (let l : List ℕ = elim x [ [] ↦ line q v | n ∷ ns ↦ n ∷ line (set q a ns) v ] in length l) ≤ suc (length v)
    at [] here there = omega (arith, here)
    at (n ∷ ns) here there = (let le = there ns in omega (arith, le))

-- ---- how long a line is

-- each letter takes a step
line-takes : (n : ℕ) (counts : List ℕ) (v : Word) → Takes n counts v → (q : Queues) → counts_of q ≡ counts → length (line q v) ≡ n
line-takes _ counts _ done q e = refl
line-takes _ counts _ (takes {n = n} {i = i} {c = c} {v = v} lt is t) q e = at (get_or q i []) refl (λ p f. line-takes n (set counts i c) v t p f)
  where
    many : length (get_or q i []) ≡ suc c
    many = sym (get_or-counts q i) ∙ ap (λ ns. get_or ns i 0) e ∙ is

    at : (l : List ℕ) → get_or q i [] ≡ l → ((p : Queues) → counts_of p ≡ set counts i c → length (line p v) ≡ n) → length (line q (i ∷ v)) ≡ suc n
    at [] h rec = absurd (let bad : 0 ≡ suc c = sym (ap length h) ∙ many in omega (arith, bad))
    at (x ∷ xs) h rec =
        let left : length xs ≡ c = (let f : suc (length xs) ≡ suc c = sym (ap length h) ∙ many in omega (arith, f)) in
        ap (λ (l : List ℕ). length l) (line-at q i v (x ∷ xs) h) ∙ ap suc (rec (set q i xs) (counts-set q i xs ∙ (λ k. set (e k) i (left k))))

word-takes : (counts : List ℕ) (r : ℕ) → r < length (all_words counts) → Takes (total counts) counts (word_at counts r)
word-takes counts r lt = each-at (Takes (total counts) counts) (all_words counts) r lt (words-take (total counts) counts)

module _ (spec : Spec) (words : spec.lines ≡ []) where
  line-is : (r : ℕ) → line_of spec r ≡ line (queues_of spec) (word_at (counts_of (queues_of spec)) r)
  line-is r = ap (λ ls. line_by ls (queues_of spec) r) words

  -- of a spec without lines each rank's line has all steps
  pub line-length : (r : ℕ) → r < length (all_words (counts_of (queues_of spec))) → length (line_of spec r) ≡ total (counts_of (queues_of spec))
  line-length r lt =
      let counts = counts_of (queues_of spec) in
      ap (λ (l : List ℕ). length l) (line-is r) ∙ line-takes (total counts) counts (word_at counts r) (word-takes counts r lt) (queues_of spec) refl

-- ---- words of a block

-- a word that goes on with the letter stands no further than these words do
inside-of : (left : List ℕ) (a i : ℕ) (v : Word) → 0 < get_or left a 0 → i < length (all_words left) → word_at left i ≡ a ∷ v
    → i < length (words_before left a) + length (all_words (taken left a))
inside-of left a i v some lt is =
    let there : place_of (a ∷ v) (all_words left) ≡ Some i = entry-place (all_words left) (a ∷ v) i (all_words-rise left) lt is in
    at (place_of v (all_words (taken left a))) refl (sym (place_of-taken left a v some) ∙ there)
  where
    at : (o : Option ℕ) → place_of v (all_words (taken left a)) ≡ o → option_map (λ n. length (words_before left a) + n) o ≡ Some i
        → i < length (words_before left a) + length (all_words (taken left a))
    at None e h = cc
    at (Some n) e h =
        let same : length (words_before left a) + n ≡ i = cc in
        let inside = (place-is v (all_words (taken left a)) n e).0 in
        omega (arith, same, inside)

-- ---- the next step of a letter

-- some step is left of the letter's session, and it is one of that session
record Next (spec : Spec) (rest : Queues) (a : ℕ) : Type 0 where
  step : ℕ
  more : List ℕ
  there : get_or rest a [] ≡ step ∷ more
  own : (get_or spec.steps step no_step).session ≡ a

next-of : (spec : Spec) (rest : Queues) (a left : ℕ) → 0 < left → LeftOf (get_or (queues_of spec) a []) left (get_or rest a []) → Next spec rest a
next-of spec rest a left some is =
    let few = is.0 in
    let cut = drop-some (get_or (queues_of spec) a []) (length (get_or (queues_of spec) a []) - left) (omega (arith, few, some)) in
    record {
      step = cut.0;
      more = cut.1.0;
      there = is.1 ∙ cut.1.1;
      own = step-owned spec a (length (get_or (queues_of spec) a []) - left) cut.0 cut.1.0 cut.1.1;
    }

-- ---- numbers, apart from what they count

beyond : (r first : ℕ) → first ≤ r → r ≡ first + (r - first)
beyond r first low = omega (arith, low)

inside : (r first count : ℕ) → first ≤ r → r < first + count → r - first < count
inside r first count low high = omega (arith, low, high)

below : (r end count : ℕ) → r < end → end ≤ count → r < count
below r end count high most = omega (arith, high, most)

-- behind all that is before and of its own
too_far : (s first before own : ℕ) → first ≤ s → s - first < before + own → first + before + own ≤ s → ⊥
too_far s first before own low near far = absurd (omega (arith, low, near, far))

-- what parts have at most, and have together, they have each
each-has : (one other most rest all : ℕ) → one + other ≡ all → most + rest ≡ all → one ≤ most → other ≤ rest → one ≡ most
each-has one other most rest all here there small less = omega (arith, here, there, small, less)

none-more : (m n : ℕ) → n ≡ 0 → m + n ≡ m
none-more m n none = omega (arith, none)

-- ---- where two words part

module _ (spec : Spec) (reduce : Bool) (p : Word) (block : Block) (world : World) (swaps : List Bool) (words : spec.lines ≡ [])
    (is : IsPlace (tour_of spec reduce) p block world swaps) where
  abbrev q : Queues
  q = queues_of spec

  abbrev counts : List ℕ
  counts = counts_of (queues_of spec)

  next : (a : ℕ) → 0 < get_or block.left a 0 → Next spec (rest_after (queues_of spec) p) a
  next a some = next-of spec (rest_after (queues_of spec) p) a (get_or block.left a 0) some (is.left a)

  -- the letters that the words share have a step each
  shared-length : (r : ℕ) (v : Word) → r < length (all_words counts) → word_at counts r ≡ p ++ v → length (line q p) ≡ length p
  shared-length r v lt word =
      let full : length (line q (p ++ v)) ≡ total counts =
      ap (λ w. length (line q w)) (sym word) ∙ line-takes (total counts) counts (word_at counts r) (word-takes counts r lt) q refl in
      let all : length (p ++ v) ≡ total counts = ap (λ (w : Word). length w) (sym word)
      ∙ takes-length (total counts) counts (word_at counts r) (word-takes counts r lt) in
      let cut : length (line q (p ++ v)) ≡ length (line q p) + length (line (rest_after q p) v) =
      ap (λ (l : List ℕ). length l) (line-behind q p v) ∙ length-append (line q p) (line (rest_after q p) v) in
      each-has (length (line q p)) (length (line (rest_after q p) v)) (length p) (length v) (total counts) (sym cut ∙ full) (sym (length-append p v) ∙ all)
      (line-le q p) (line-le (rest_after q p) v)

  -- two words with the letters that go on with letters of their own
  apart : (a b : ℕ) (u v : Word) → a ≢ b → 0 < get_or block.left a 0 → 0 < get_or block.left b 0
      → front (line q (p ++ a ∷ u)) (line q (p ++ b ∷ v)) ≡ length (line q p)
  apart a b u v ne some_a some_b =
      let x = next a some_a in
      let y = next b some_b in
      let differ : x.step ≢ y.step = λ e. ne (sym x.own ∙ ap (λ k. (get_or spec.steps k no_step).session) e ∙ y.own) in
      let one : line q (p ++ a ∷ u) ≡ line q p ++ (x.step ∷ line (set (rest_after q p) a x.more) u) =
      line-behind q p (a ∷ u) ∙ ap (λ l. line q p ++ l) (line-at (rest_after q p) a u (x.step ∷ x.more) x.there) in
      let other : line q (p ++ b ∷ v) ≡ line q p ++ (y.step ∷ line (set (rest_after q p) b y.more) v) =
      line-behind q p (b ∷ v) ∙ ap (λ l. line q p ++ l) (line-at (rest_after q p) b v (y.step ∷ y.more) y.there) in
      let none = front-apart x.step y.step (line (set (rest_after q p) a x.more) u) (line (set (rest_after q p) b y.more) v) differ in
      let both = front-behind (line q p) (x.step ∷ line (set (rest_after q p) a x.more) u) (y.step ∷ line (set (rest_after q p) b y.more) v) in
      (λ k. front (one k) (other k)) ∙ both
      ∙ none-more (length (line q p)) (front (x.step ∷ line (set (rest_after q p) a x.more) u) (y.step ∷ line (set (rest_after q p) b y.more) v)) none

  -- one rank goes on with the letter, and the other one stands behind those that do
  pub parted-front : (r s a : ℕ) → 0 < get_or block.left a 0 → HasRank (narrowed block a) r → HasRank block s → end_of (narrowed block a) ≤ s
      → front (line_of spec r) (line_of spec s) ≡ length p
  parted-front r s a some has_r has_s behind =
      let i = r - (narrowed block a).first in
      let j = s - block.first in
      let own = length (all_words (taken block.left a)) in
      let child = block-narrowed counts p block a some is.ranks in
      let in_s : j < length (all_words block.left) = inside s block.first (length (all_words block.left)) has_s.0 has_s.1 in
      let b = begins block.left j (some-total block.left a some) in_s in
      let u = word_at (taken block.left a) i in
      let word_r : word_at counts r ≡ p ++ a ∷ u =
      ap (word_at counts) (beyond r (narrowed block a).first has_r.0) ∙ child.words i (inside r (narrowed block a).first own has_r.0 has_r.1)
      ∙ append_assoc p (a ∷ []) u in
      let word_s : word_at counts s ≡ p ++ b.letter ∷ b.rest =
      ap (word_at counts) (beyond s block.first has_s.0) ∙ is.ranks.words j in_s ∙ ap (λ w. p ++ w) b.is in
      let ne : a ≢ b.letter =
      λ e. too_far s block.first (length (words_before block.left a)) own has_s.0
      (inside-of block.left a j b.rest some in_s (b.is ∙ ap (λ c. c ∷ b.rest) (sym e))) behind in
      let lt : s < length (all_words counts) = below s (end_of block) (length (all_words counts)) has_s.1 is.ranks.inside in
      let lines : front (line_of spec r) (line_of spec s) ≡ front (line q (word_at counts r)) (line q (word_at counts s)) =
      λ k. front (line-is spec words r k) (line-is spec words s k) in
      let letters : front (line q (word_at counts r)) (line q (word_at counts s)) ≡ front (line q (p ++ a ∷ u)) (line q (p ++ b.letter ∷ b.rest)) =
      λ k. front (line q (word_r k)) (line q (word_s k)) in
      lines ∙ letters ∙ apart a b.letter u b.rest ne some b.left ∙ shared-length s (b.letter ∷ b.rest) lt word_s
