-- The rank of an order, and how many orders there are.
use Rattle.std.proofs.Common.{◌≡◌, refl, sym, ap, ◌∙◌, subst, ℕ, ◌<◌, ◌≤◌, ◌^◌, ◌==◌, ◌||◌, inl, inr, Bool, true, false, List, [], ◌∷◌, ◌++◌, length, map, arith, eqb-true}
use Rattle.std.specs.List.{IsDistinct, list_any, AllByRecursion}
use Rattle.std.proofs.lemmas.List.{length-map, map-append}
use Rattle.std.proofs.lemmas.Map.Steps.{length-le_from_distinct_below}
use Rattle.path_counts.specs.Paths.{Has, AreApart}
use Rattle.path_counts.proofs.Lists.{has-mapped, apart-map}
use Rattle.perm_ranks.specs.Words.{Word, total, words_of, word_at}
use Rattle.perm_ranks.proofs.WordLemmas.{Takes, words-take, each-at}
use Rattle.bound_specs.specs.Spec.{Step, Queues, line, counts_of}
use Rattle.world_graph.specs.Worlds.{LeadsBack, AreFewWords}
use Rattle.spec_schedules.specs.Schedules.{session_of, permutations, IsRank}
use Rattle.spec_schedules.specs.Points.{Point, point_rules}
use Rattle.spec_schedules.proofs.Ranks.{word_rank, rank-within, rank-begins, rank-least}
use Rattle.spec_schedules.proofs.Letters.{AreQueued, Serves, rest_of, line-append, sessions-line, left-served, served-takes, total-rest}
use Rattle.spec_schedules.proofs.Words.{runs-serve, behind-line, rank-line}

-- ---- the rank of what a word sends

pub word-rank-is : (steps : List Step) (q : Queues) (s : Word) → AreQueued steps q → Serves q s → IsRank q (line q s) (word_rank (counts_of q) s)
word-rank-is steps q s queued v =
    let c = counts_of q in
    let left = left-served q s v in
    let b = rank-begins c s left in
    record {
      inside = rank-within c s left;
      begins = (line (rest_of q s) b.0, sym (line-append q s b.0 v) ∙ sym (ap (line q) b.1));
      least = λ r lt p.
          (let takes = each-at (Takes (total c) c) (words_of (total c) c) r lt (words-take (total c) c) in
          let word = word_at c r in
          let is : word ≡ s ++ map (session_of steps) p.0 =
          sym (sessions-line steps q word queued (served-takes (total c) c word takes q refl))
          ∙ ap (map (session_of steps)) (sym p.1) ∙ map-append (session_of steps) (line q s) p.0
          ∙ ap (λ l. l ++ map (session_of steps) p.0) (sessions-line steps q s queued v) in
          rank-least c s left r lt (map (session_of steps) p.0) is);
    }

pub one-rank : (q : Queues) (ks : List ℕ) (a b : ℕ) → IsRank q ks a → IsRank q ks b → a ≡ b
one-rank q ks a b h k = (let x = h.least b k.inside k.begins in let y = k.least a h.inside h.begins in omega arith)

-- ---- no way back

pub never-back : LeadsBack point_rules → ⊥
never-back b =
    let p = b.world in
    let v = runs-serve p.kind p.run p.left p.world b.word b.runs in
    let same : rest_of p.left b.word ≡ p.left = sym (ap (λ (x : Point). x.left) (behind-line p.kind p.run p.left p.world b.word b.runs)) ∙ ap (λ (x : Point). x.left) b.back in
    let t = total-rest p.left b.word v in
    let e = ap (λ q. total (counts_of q)) same in
    let some = b.some in
    omega arith

-- ---- how many there are

same-front : (s t u v : Word) → length s ≡ length t → s ++ u ≡ t ++ v → s ≡ t
same-front [] [] u v l e = refl
same-front [] (b ∷ t) u v l e = absurd (omega arith)
same-front (a ∷ s) [] u v l e = absurd (omega arith)
same-front (a ∷ s) (b ∷ t) u v l e =
    let rest = same-front s t u v (omega arith) (let tails : s ++ u ≡ t ++ v = cc in tails) in
    let head : a ≡ b = cc in
    λ i. head i ∷ rest i

unequal : (x y : ℕ) → (x ≡ y → ⊥) → (x == y) ≡ false
unequal x y f = at (x == y) refl
  where
    at : (b : Bool) → (x == y) ≡ b → (x == y) ≡ false
    at true e = absurd (f (eqb-true x y e))
    at false e = e

not-any : (x : ℕ) (ys : List ℕ) → (Has x ys → ⊥) → AllByRecursion (λ y. (x == y) ≡ false) ys
not-any x [] f = tt
not-any x (y ∷ ys) f = (unequal x y (λ e. f (inl e)), not-any x ys (λ h. f (inr h)))

apart-distinct : (xs : List ℕ) → AreApart xs → IsDistinct (λ x y. x == y) xs
unfolding IsDistinct
apart-distinct [] a = tt
apart-distinct (x ∷ xs) a = (not-any x xs a.0, apart-distinct xs a.1)

any-has : (x : ℕ) (ys : List ℕ) → list_any (λ y. x == y) ys ≡ true → Has x ys
any-has x [] e = absurd (cc)
any-has x (y ∷ ys) e = at (x == y) refl e (λ h. any-has x ys h)
  where
    at : (b : Bool) → (x == y) ≡ b → (b || list_any (λ z. x == z) ys) ≡ true → (list_any (λ z. x == z) ys ≡ true → Has x ys) → Has x (y ∷ ys)
    at true is e rest = inl (eqb-true x y is)
    at false is e rest = inr (rest e)

module _ (q r : Queues) where
  -- words that leave the same, with one rank, are one word
  rank-one-word : (s t : Word) → Serves q s → Serves q t → rest_of q s ≡ r → rest_of q t ≡ r → word_rank (counts_of q) s ≡ word_rank (counts_of q) t → s ≡ t
  rank-one-word s t v u e f same =
      let a = rank-begins (counts_of q) s (left-served q s v) in
      let b = rank-begins (counts_of q) t (left-served q t u) in
      let l = total-rest q s v in
      let m = total-rest q t u in
      let n : total (counts_of (rest_of q s)) ≡ total (counts_of (rest_of q t)) = ap (λ x. total (counts_of x)) (e ∙ sym f) in
      same-front s t a.0 b.0 (omega arith) (sym a.1 ∙ ap (word_at (counts_of q)) same ∙ b.1)

  pub words-few : (words : List Word) → AreApart words → ((s : Word) → Has s words → Serves q s × (rest_of q s ≡ r)) → length words ≤ permutations q
  words-few words apart each =
      let ranks = map (word_rank (counts_of q)) words in
      let apart_ranks : AreApart ranks = apart-map (word_rank (counts_of q)) words
      (λ x y hx hy e. rank-one-word x y (each x hx).0 (each y hy).0 (each x hx).1 (each y hy).1 e) apart in
      let le = length-le_from_distinct_below ranks (permutations q) (apart-distinct ranks apart_ranks)
      (λ n any. let h = has-mapped (word_rank (counts_of q)) n words (any-has n ranks any) in
      subst (λ m. m < permutations q) (sym h.2) (rank-within (counts_of q) h.0 (left-served q h.0 (each h.0 h.1).0))) in
      let l = length-map words (word_rank (counts_of q)) in
      omega arith

pub point-few : (p : Point) → permutations p.left < 2 ^ 63 → AreFewWords point_rules p
point-few p few = record {
  few = λ w words apart each.
      (let le = words-few p.left w.left words apart (λ s h.
      (let e = each s h in
      (runs-serve p.kind p.run p.left p.world s e.0, sym (ap (λ (x : Point). x.left) (behind-line p.kind p.run p.left p.world s e.0)) ∙ ap (λ (x : Point). x.left) e.1))) in
      omega arith);
  light = λ s h.
      (let is = rank-line p.kind p.run p.left p.world s h in
      let lt = rank-within (counts_of p.left) s (left-served p.left s (runs-serve p.kind p.run p.left p.world s h)) in
      omega arith);
}
