-- The schedule of a rank is what may come of the permutation of that rank.
use Rattle.std.proofs.Common.{◌≡◌, refl, sym, ap, ◌∙◌, subst, ℕ, ◌+◌, ◌<◌, inl, inr, ⊎_elim, Bool, true, false, not, cond, List, [], ◌∷◌, ◌++◌, length, length-append, append_assoc, All, arith}
use Rattle.std.proofs.lemmas.Bool.{cases_eq}
use Rattle.std.proofs.lemmas.List.{append-nil}
use Rattle.std.proofs.lemmas.List.Elements.{All-head, All-tail}
use Rattle.lock_queues.specs.Locks.{waits_now}
use Rattle.path_counts.specs.Paths.{Has}
use Rattle.bound_specs.specs.Spec.{Spec, Step, Queues, queues_of, line_by, line_of, ranks, ranks_by}
use Rattle.machine_model.specs.World.{World, send, send_all}
use Rattle.machine_model.specs.Start.{Started, start}
use Rattle.spec_schedules.specs.declared.kind.Kind.TheVariants.{Schedules, Permutations}
use Rattle.spec_schedules.specs.Schedules.{session_of, own_steps, EachMayCome, IsOrder}
use Rattle.spec_schedules.specs.Ranked.{IsOrderAt, IsOrderBy}
use Rattle.spec_schedules.specs.Laws.{PermutationsAreRanked}
use Rattle.spec_schedules.proofs.Letters.{own-here, own-other}
use Rattle.spec_classes.specs.Leading.{led}

module _ (steps : List Step) where
  -- what a session sends of two lists
  own-append : (i : ℕ) (ks t : List ℕ) → length (own_steps steps i (ks ++ t)) ≡ length (own_steps steps i ks) + length (own_steps steps i t)
  own-append i [] t = omega arith
  own-append i (k ∷ ks) t =
      let rec = own-append i ks t in
      elim (cases_eq (session_of steps k) i) [
        | inl s ↦ let a = ap length (own-here steps i k ks s) in let b = ap length (own-here steps i k (ks ++ t) s) in omega arith
        | inr f ↦ let a = ap length (own-other steps i k ks f) in let b = ap length (own-other steps i k (ks ++ t) f) in omega arith
      ]

  own-some : (m : ℕ) (t : List ℕ) → Has m t → 0 < length (own_steps steps (session_of steps m) t)
  own-some m [] has = absurd has
  own-some m (k ∷ t) (inl e) = (let a = ap length (own-here steps (session_of steps m) k t (ap (session_of steps) (sym e))) in omega arith)
  own-some m (k ∷ t) (inr has) =
      let rec = own-some m t has in
      elim (cases_eq (session_of steps k) (session_of steps m)) [
        | inl s ↦ let a = ap length (own-here steps (session_of steps m) k t s) in omega arith
        | inr f ↦ let a = ap length (own-other steps (session_of steps m) k t f) in omega arith
      ]

  known-in : (n : ℕ) (ks : List ℕ) (t : List ℕ) (m : ℕ) → All (λ k. session_of steps k < n) (ks ++ t) → Has m t → session_of steps m < n
  known-in n (k ∷ ks) t m h has = known-in n ks t m (All-tail (λ k. session_of steps k < n) k (ks ++ t) h) has
  known-in n [] [] m h has = absurd has
  known-in n [] (k ∷ t) m h (inl e) = subst (λ j. session_of steps j < n) (sym e) (All-head (λ k. session_of steps k < n) k t h)
  known-in n [] (k ∷ t) m h (inr has) = known-in n [] t m (All-tail (λ k. session_of steps k < n) k t h) has

  not-true : (b : Bool) → not b ≡ true → b ≡ false
  not-true true e = absurd (cc)
  not-true false e = refl

  not-false : (b : Bool) → not b ≡ false → b ≡ true
  not-false true e = refl
  not-false false e = absurd (cc)

  -- where each of them waits, none is led
  none-led : (w : World) (t : List ℕ) → ((m : ℕ) → Has m t → waits_now w.waits (session_of steps m) ≡ true) → led steps w t ≡ []
  none-led w [] h = refl
  none-led w (k ∷ t) h = ap (λ b. cond b (led steps w t) (k ∷ led steps (send steps w k) t)) (h k (inl refl)) ∙ none-led w t (λ m has. h m (inr has))

  led-front : (w : World) (ks t : List ℕ) → EachMayCome Schedules steps w ks → led steps w (ks ++ t) ≡ ks ++ led steps (send_all steps w ks) t
  led-front w [] t h = refl
  led-front w (k ∷ ks) t h =
      ap (λ b. cond b (led steps w (ks ++ t)) (k ∷ led steps (send steps w k) (ks ++ t))) (not-true (waits_now w.waits (session_of steps k)) h.0)
      ∙ ap (λ r. k ∷ r) (led-front (send steps w k) ks t h.1)

  pub led-is : (q : Queues) (w v : World) (ks t : List ℕ) → IsOrder Schedules steps q w ks → IsOrder Permutations steps q v (ks ++ t) → led steps w (ks ++ t) ≡ ks
  led-is q w v ks t h p =
      led-front w ks t h.each
      ∙ ap (λ r. ks ++ r) (none-led (send_all steps w ks) t (λ m has.
      (let i = session_of steps m in
      let lt = known-in (length q) ks t m p.known has in
      let some = own-some m t has in
      let both = own-append i ks t in
      let turn = p.in_turn i lt in
      let long = sym (length-append (own_steps steps i (ks ++ t)) turn.0) ∙ ap length turn.1 in
      ⊎_elim (λ all. absurd (let same = ap length all in omega arith)) (λ stays. not-false (waits_now (send_all steps w ks).waits i) stays) (h.longest i lt))))
      ∙ append-nil ks

-- the schedule of a rank is led along its permutation
pub schedule-led : (run : Spec) (w : World) (rank : ℕ) (ks : List ℕ) → PermutationsAreRanked → run.lines ≡ [] → start run ≡ Started w → IsOrderAt Schedules run rank ks
    → (rank < ranks run) × IsOrderAt Schedules run rank (led run.steps w (line_of run rank))
schedule-led run w rank ks ranked none starts h =
    let q = queues_of run in
    let x = subst (λ ls. IsOrderBy Schedules run ls rank ks) none h in
    let inside : rank < ranks run = subst (λ ls. rank < ranks_by ls q) (sym none) x.3.inside in
    let p = subst (λ ls. IsOrderBy Permutations run ls rank (line_of run rank)) none ((ranked run w none starts rank (line_of run rank)).1 (inside, refl)) in
    let begins = x.3.begins in
    let whole : ks ++ begins.0 ≡ line_of run rank = begins.1 ∙ sym (ap (λ ls. line_by ls q rank) none) in
    let same : x.0 ≡ w = same-start x.0 (sym x.1 ∙ starts) in
    let own = subst (λ v. IsOrder Schedules run.steps q v ks) same x.2 in
    let is : led run.steps w (line_of run rank) ≡ ks =
    ap (led run.steps w) (sym whole) ∙ led-is run.steps q w p.0 ks begins.0 own (subst (λ l. IsOrder Permutations run.steps q p.0 l) (sym whole) p.2) in
    (inside, subst (λ l. IsOrderAt Schedules run rank l) (sym is) h)
  where
    same-start : (v : World) → Started v ≡ Started w → v ≡ w
    same-start v e = cc

-- a step that waits is passed over, and one that does not goes behind those that were led
pub led_waits : (steps : List Step) (w : World) (k : ℕ) (ks front : List ℕ) → waits_now w.waits (session_of steps k) ≡ true → front ++ led steps w ks ≡ front ++ led steps w (k ∷ ks)
led_waits steps w k ks front e = sym (ap (λ b. front ++ cond b (led steps w ks) (k ∷ led steps (send steps w k) ks)) e)

pub led_goes : (steps : List Step) (w v : World) (k : ℕ) (ks front more : List ℕ) → waits_now w.waits (session_of steps k) ≡ false → v ≡ send steps w k → more ≡ front ++ k ∷ []
    → more ++ led steps v ks ≡ front ++ led steps w (k ∷ ks)
led_goes steps w v k ks front more e is put =
    (λ j. put j ++ led steps (is j) ks) ∙ append_assoc front (k ∷ []) (led steps (send steps w k) ks)
    ∙ sym (ap (λ b. front ++ cond b (led steps w ks) (k ∷ led steps (send steps w k) ks)) e)
