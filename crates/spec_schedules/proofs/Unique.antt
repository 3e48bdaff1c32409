-- Orders that have one rank are one, and each rank has its permutation.
use Rattle.std.proofs.Common.{◌≡◌, ◌↔◌, refl, sym, ap, ◌∙◌, subst, ℕ, ◌<◌, ◌⊎◌, inl, inr, true, false, Option, Some, List, [], ◌∷◌, ◌++◌, length, map, get_or, slice_get, All, arith}
use Rattle.std.proofs.lemmas.Bool.{cases_eq}
use Rattle.std.proofs.lemmas.List.{append-nil, length-append, map-append}
use Rattle.std.proofs.lemmas.List.Elements.{All-head, All-tail}
use mathlib.Core.List.{IsPrefix}
use Rattle.perm_ranks.specs.Words.{Word, total, all_words, words_of, word_at, place_of}
use Rattle.perm_ranks.proofs.CountLemmas.{get_or-le-total}
use Rattle.perm_ranks.proofs.WordLemmas.{Takes, words-take, each-at, takes-length, entry-place, all_words-rise}
use Rattle.bound_specs.specs.Spec.{Step, Spec, Queues, line, line_by, ranks_by, counts_of, queues_of, ranks, line_of}
use Rattle.bound_specs.proofs.WalkLemmas.{get_or-counts}
use Rattle.machine_model.specs.World.{World, send, send_all}
use Rattle.machine_model.specs.Start.{Started, start}
use Rattle.spec_schedules.specs.declared.kind.Kind.{Kind}
use Rattle.spec_schedules.specs.declared.kind.Kind.TheVariants.{Permutations}
use Rattle.spec_schedules.specs.Schedules.{session_of, own_steps, may_come, EachMayCome, IsOrder, IsRank, permutations, permutation_of}
use Rattle.spec_schedules.specs.Ranked.{IsOrderAt, IsOrderBy}
use Rattle.spec_schedules.specs.Laws.{OrdersAreAlone, PermutationsAreRanked}
use Rattle.spec_schedules.proofs.Letters.{AreQueued, rest_of, own-here, own-other, own-line, known-line, sessions-line, served-takes, total-rest, spec-queued}

-- ---- orders with one rank

-- of two fronts of a list one is the front of the other
fronts : (xs ys a b : List ℕ) → xs ++ a ≡ ys ++ b → IsPrefix xs ys ⊎ IsPrefix ys xs
fronts [] ys a b e = inl (ys, refl)
fronts (x ∷ xs) [] a b e = inr (x ∷ xs, refl)
fronts (x ∷ xs) (y ∷ ys) a b e =
    let head : x ≡ y = cc in
    let tails : xs ++ a ≡ ys ++ b = cc in
    elim (fronts xs ys a b tails) [
      | inl p ↦ inl (p.0, (λ i. head i ∷ p.1 i))
      | inr p ↦ inr (p.0, (λ i. sym head i ∷ p.1 i))
    ]

module _ (steps : List Step) where
  come-next : (kind : Kind) (w : World) (ks : List ℕ) (m : ℕ) (t : List ℕ) → EachMayCome kind steps w (ks ++ m ∷ t) → may_come kind (send_all steps w ks) (session_of steps m) ≡ true
  come-next kind w [] m t h = h.0
  come-next kind w (k ∷ ks) m t h = come-next kind (send steps w k) ks m t h.1

  own-longer : (i : ℕ) (ks : List ℕ) (m : ℕ) (t : List ℕ) → session_of steps m ≡ i → length (own_steps steps i ks) < length (own_steps steps i (ks ++ m ∷ t))
  own-longer i [] m t e = let own = ap length (own-here steps i m t e) in omega arith
  own-longer i (k ∷ ks) m t e =
      let rec = own-longer i ks m t e in
      elim (cases_eq (session_of steps k) i) [
        | inl s ↦ let a = ap length (own-here steps i k ks s) in let b = ap length (own-here steps i k (ks ++ m ∷ t) s) in omega arith
        | inr f ↦ let a = ap length (own-other steps i k ks f) in let b = ap length (own-other steps i k (ks ++ m ∷ t) f) in omega arith
      ]

  known-next : (n : ℕ) (ks : List ℕ) (m : ℕ) (t : List ℕ) → All (λ k. session_of steps k < n) (ks ++ m ∷ t) → session_of steps m < n
  known-next n [] m t h = All-head (λ k. session_of steps k < n) m t h
  known-next n (k ∷ ks) m t h = known-next n ks m t (All-tail (λ k. session_of steps k < n) k (ks ++ m ∷ t) h)

  -- no further step may come behind an order
  whole : (kind : Kind) (q : Queues) (w : World) (ks t : List ℕ) → IsOrder kind steps q w ks → IsOrder kind steps q w (ks ++ t) → ks ≡ ks ++ t
  whole kind q w ks [] h k = sym (append-nil ks)
  whole kind q w ks (m ∷ t) h k =
      let i = session_of steps m in
      let lt = known-next (length q) ks m t k.known in
      let longer = own-longer i ks m t refl in
      absurd (elim (h.longest i lt) [
        | inl all ↦ let p = k.in_turn i lt in
            let long = sym (length-append (own_steps steps i (ks ++ m ∷ t)) p.0) ∙ ap length p.1 in
            let same = ap length all in
            omega arith
        | inr stays ↦ let goes = come-next kind w ks m t k.each in let bad : true ≡ false = sym goes ∙ stays in cc
      ])

  pub same-order : (kind : Kind) (q : Queues) (w : World) (ks ls : List ℕ) (rank : ℕ) → IsOrder kind steps q w ks → IsOrder kind steps q w ls → IsRank q ks rank → IsRank q ls rank → ks ≡ ls
  same-order kind q w ks ls rank h k r s =
      let a = r.begins in
      let b = s.begins in
      elim (fronts ks ls a.0 b.0 (a.1 ∙ sym b.1)) [
        | inl p ↦ whole kind q w ks p.0 h (subst (λ l. IsOrder kind steps q w l) (sym p.1) k) ∙ p.1
        | inr p ↦ sym (whole kind q w ls p.0 k (subst (λ l. IsOrder kind steps q w l) (sym p.1) h) ∙ p.1)
      ]

same-world : (run : Spec) (v w : World) → start run ≡ Started v → start run ≡ Started w → v ≡ w
same-world run v w a b = let e : Started v ≡ Started w = sym a ∙ b in cc

one-at : (a b : Option (List ℕ)) (ks ls : List ℕ) → a ≡ Some ks → a ≡ Some ls → ks ≡ ls
one-at a b ks ls e f = let g : Some ks ≡ Some ls = sym e ∙ f in cc

alone-by : (kind : Kind) (run : Spec) (lines : List (List ℕ)) (rank : ℕ) (ks ls : List ℕ) → IsOrderBy kind run lines rank ks → IsOrderBy kind run lines rank ls → ks ≡ ls
alone-by kind run [] rank ks ls h k =
    same-order run.steps kind (queues_of run) h.0 ks ls rank h.2 (subst (λ w. IsOrder kind run.steps (queues_of run) w ls) (same-world run k.0 h.0 k.1 h.1) k.2) h.3 k.3
alone-by kind run (l ∷ lines) rank ks ls h k = one-at (slice_get (l ∷ lines) rank) (slice_get (l ∷ lines) rank) ks ls h k

pub orders-alone : OrdersAreAlone
orders-alone kind run rank ks ls h k = alone-by kind run run.lines rank ks ls h k

-- ---- the permutation of a rank

pub each-permutation : (steps : List Step) (w : World) (ks : List ℕ) → EachMayCome Permutations steps w ks
each-permutation steps w [] = tt
each-permutation steps w (k ∷ ks) = (refl, each-permutation steps (send steps w k) ks)

none-in : (xs : List ℕ) → length xs ≡ 0 → xs ≡ []
none-in [] e = refl
none-in (x ∷ xs) e = absurd (omega arith)

module _ (steps : List Step) (q : Queues) (w : World) where
  -- all steps of all sessions, in any turn
  word-permutes : (s : Word) → AreQueued steps q → Takes (total (counts_of q)) (counts_of q) s → IsOrder Permutations steps q w (line q s)
  word-permutes s queued t =
      let v = served-takes (total (counts_of q)) (counts_of q) s t q refl in
      let left = total-rest q s v in
      let long = takes-length (total (counts_of q)) (counts_of q) s t in
      record {
        known = known-line steps q s queued v;
        in_turn = λ i lt. (get_or (rest_of q s) i [], own-line steps q s queued v i);
        each = each-permutation steps w (line q s);
        longest = λ i lt.
            (let few = get_or-le-total (counts_of (rest_of q s)) i in
            let count = get_or-counts (rest_of q s) i in
            let none : get_or (rest_of q s) i [] ≡ [] = none-in (get_or (rest_of q s) i []) (omega arith) in
            inl (sym (append-nil (own_steps steps i (line q s))) ∙ ap (λ r. own_steps steps i (line q s) ++ r) (sym none) ∙ own-line steps q s queued v i));
      }

  takes-at : (rank : ℕ) → rank < permutations q → Takes (total (counts_of q)) (counts_of q) (word_at (counts_of q) rank)
  takes-at rank lt = each-at (Takes (total (counts_of q)) (counts_of q)) (words_of (total (counts_of q)) (counts_of q)) rank lt (words-take (total (counts_of q)) (counts_of q))

  front-whole : (v u t : Word) → length v ≡ length u → v ++ t ≡ u → v ≡ u
  front-whole v u t long e =
      let l = sym (length-append v t) ∙ ap length e in
      let none : t ≡ [] = none-in t (omega arith) in
      sym (append-nil v) ∙ ap (λ r. v ++ r) (sym none) ∙ e

  -- a permutation that begins with all of another one is that one
  same-rank : AreQueued steps q → (rank other : ℕ) → rank < permutations q → other < permutations q → IsPrefix (permutation_of q rank) (permutation_of q other) → rank ≡ other
  same-rank queued rank other lt lt2 p =
      let c = counts_of q in
      let a = takes-at rank lt in
      let b = takes-at other lt2 in
      let v = word_at c rank in
      let u = word_at c other in
      let front : v ++ map (session_of steps) p.0 ≡ u =
      ap (λ l. l ++ map (session_of steps) p.0) (sym (sessions-line steps q v queued (served-takes (total c) c v a q refl)))
      ∙ sym (map-append (session_of steps) (line q v) p.0) ∙ ap (map (session_of steps)) p.1
      ∙ sessions-line steps q u queued (served-takes (total c) c u b q refl) in
      let m = takes-length (total c) c v a in
      let n = takes-length (total c) c u b in
      let same : v ≡ u = front-whole v u (map (session_of steps) p.0) (omega arith) front in
      let at : place_of u (all_words c) ≡ Some rank = entry-place (all_words c) u rank (all_words-rise c) lt same in
      let at2 : place_of u (all_words c) ≡ Some other = entry-place (all_words c) u other (all_words-rise c) lt2 refl in
      let both : Some rank ≡ Some other = sym at ∙ at2 in
      cc

  pub permutes : AreQueued steps q → (rank : ℕ) → rank < permutations q → IsOrder Permutations steps q w (permutation_of q rank) × IsRank q (permutation_of q rank) rank
  permutes queued rank lt = (
    word-permutes (word_at (counts_of q) rank) queued (takes-at rank lt),
    record {
      inside = lt;
      begins = ([], append-nil (permutation_of q rank));
      least = λ other lt2 p. (let e = same-rank queued rank other lt lt2 p in omega arith);
    },
  )

by-none : (kind : Kind) (run : Spec) (rank : ℕ) (ks : List ℕ) → run.lines ≡ [] → IsOrderAt kind run rank ks ↔ IsOrderBy kind run [] rank ks
by-none kind run rank ks none = ((λ h. subst (λ ls. IsOrderBy kind run ls rank ks) none h), (λ h. subst (λ ls. IsOrderBy kind run ls rank ks) (sym none) h))

pub permutations-ranked : PermutationsAreRanked
permutations-ranked run w none starts rank ks =
    let q = queues_of run in
    let queued = spec-queued run.steps run.sessions in
    let count : ranks run ≡ permutations q = ap (λ ls. ranks_by ls q) none in
    let at : line_of run rank ≡ permutation_of q rank = ap (λ ls. line_by ls q rank) none in (
      (λ h. (let x = (by-none Permutations run rank ks none).0 h in
          let lt = x.3.inside in
          let p = permutes run.steps q x.0 queued rank lt in
          (omega arith, same-order run.steps Permutations q x.0 ks (permutation_of q rank) rank x.2 p.0 x.3 p.1 ∙ sym at))),
      (λ h. (let inside = h.0 in
          let lt : rank < permutations q = omega arith in
          let is : ks ≡ permutation_of q rank = h.1 ∙ at in
          let p = subst (λ l. IsOrder Permutations run.steps q w l × IsRank q l rank) (sym is) (permutes run.steps q w queued rank lt) in
          (by-none Permutations run rank ks none).1 (w, starts, p.0, p.1))),
    )
