-- The orders of a spec are the maximal words of its graph.
use Rattle.std.proofs.Common.{◌≡◌, refl, sym, ap, ◌∙◌, subst, ℕ, ◌+◌, ◌<◌, ◌≤◌, ◌⊎◌, ◌&&◌, inl, inr, Bool, true, false, List, [], ◌∷◌, ◌++◌, length, get_or, set, map, All, arith, get_or-set_same, get_or-set_other}
use Rattle.std.proofs.lemmas.Bool.{cases_eq, cases_lt, false≢true}
use Rattle.std.proofs.lemmas.List.{get_or_past, length-set, append-nil, length-append}
use Rattle.std.proofs.lemmas.List.Elements.{All-head, All-tail}
use mathlib.Core.List.{IsPrefix}
use Rattle.perm_ranks.specs.Words.{Word}
use Rattle.perm_ranks.specs.Counting.{words_before}
use Rattle.bound_specs.specs.Spec.{Spec, Queues, line, counts_of}
use Rattle.bound_specs.proofs.WalkLemmas.{line-takes}
use Rattle.machine_model.specs.World.{World, send, send_all}
use Rattle.world_graph.specs.Worlds.{Runs, behind, rank, IsOver}
use Rattle.spec_schedules.specs.declared.kind.Kind.{Kind}
use Rattle.spec_schedules.specs.Schedules.{session_of, own_steps, may_come, EachMayCome, IsOrder}
use Rattle.spec_schedules.specs.Points.{Point, point_rules, point_with, is_some_left}
use Rattle.spec_schedules.proofs.Ranks.{word_rank}
use Rattle.spec_schedules.proofs.Letters.{AreQueued, Serves, rest_of, tail_of, own-here, own-other, queued-head, queued-set, own-line, known-line, length-rest, counts-taken}

nothing-behind : (xs ys : List ℕ) → xs ++ ys ≡ xs → ys ≡ []
nothing-behind xs [] e = refl
nothing-behind xs (y ∷ ys) e = absurd (let l = sym (length-append xs (y ∷ ys)) ∙ ap length e in omega arith)

and-none : (b : Bool) → (b && false) ≡ false
and-none true = refl
and-none false = refl

module _ (kind : Kind) (run : Spec) where
  abbrev pub at : Queues → World → Point
  at q w = record { kind = kind; run = run; left = q; world = w }

  -- the first letter of a word that runs
  pub record IsRunHead (q : Queues) (w : World) (a : ℕ) (s : Word) : Type 0 where
    pub step : ℕ
    pub rest : List ℕ
    pub queue : get_or q a [] ≡ step ∷ rest
    pub may : may_come kind w a ≡ true
    pub next : point_rules.next (at q w) a ≡ at (set q a rest) (send run.steps w step)
    pub runs : Runs point_rules (at (set q a rest) (send run.steps w step)) s

  pub run-head : (q : Queues) (w : World) (a : ℕ) (s : Word) → Runs point_rules (at q w) (a ∷ s) → IsRunHead q w a s
  run-head q w a s h = by (get_or q a []) refl
    where
      by : (xs : List ℕ) → get_or q a [] ≡ xs → IsRunHead q w a s
      by [] e = absurd (false≢true (sym (ap (λ xs. is_some_left xs && may_come kind w a) e) ∙ h.1))
      by (k ∷ ks) e = record {
        step = k;
        rest = ks;
        queue = e;
        may = sym (ap (λ xs. is_some_left xs && may_come kind w a) e) ∙ h.1;
        next = ap (point_with (at q w) a) e;
        runs = subst (λ p. Runs point_rules p s) (ap (point_with (at q w) a) e) h.2;
      }

  pub runs-serve : (q : Queues) (w : World) (s : Word) → Runs point_rules (at q w) s → Serves q s
  runs-serve q w [] h = tt
  runs-serve q w (a ∷ s) h =
      let x = run-head q w a s h in
      (let l = ap length x.queue in omega arith, subst (λ r. Serves (set q a r) s) (sym (ap tail_of x.queue)) (runs-serve (set q a x.rest) (send run.steps w x.step) s x.runs))

  -- the world behind a word is the one behind its run.steps
  pub behind-line : (q : Queues) (w : World) (s : Word) → Runs point_rules (at q w) s → behind point_rules (at q w) s ≡ at (rest_of q s) (send_all run.steps w (line q s))
  behind-line q w [] h = refl
  behind-line q w (a ∷ s) h =
      let x = run-head q w a s h in
      ap (λ p. behind point_rules p s) x.next
      ∙ behind-line (set q a x.rest) (send run.steps w x.step) s x.runs
      ∙ ap (λ r. at (rest_of (set q a r) s) (send_all run.steps w (x.step ∷ line (set q a x.rest) s))) (sym (ap tail_of x.queue))
      ∙ ap (λ l. at (rest_of (set q a (tail_of (get_or q a []))) s) (send_all run.steps w l)) (sym (line-takes q a x.step x.rest s x.queue))

  pub each-line : (q : Queues) (w : World) (s : Word) → AreQueued run.steps q → Runs point_rules (at q w) s → EachMayCome kind run.steps w (line q s)
  each-line q w [] queued h = tt
  each-line q w (a ∷ s) queued h =
      let x = run-head q w a s h in
      let rest : EachMayCome kind run.steps (send run.steps w x.step) (line (set q a x.rest) s) = each-line (set q a x.rest) (send run.steps w x.step) s (queued-set run.steps q a x.step x.rest queued x.queue) x.runs in
      subst (λ l. EachMayCome kind run.steps w l) (sym (line-takes q a x.step x.rest s x.queue))
      (ap (may_come kind w) (queued-head run.steps q a x.step x.rest queued x.queue) ∙ x.may, rest)

  -- the rank of a word in the graph
  pub rank-line : (q : Queues) (w : World) (s : Word) → Runs point_rules (at q w) s → rank point_rules (at q w) s ≡ word_rank (counts_of q) s
  rank-line q w [] h = refl
  rank-line q w (a ∷ s) h =
      let x = run-head q w a s h in
      ap (λ n. length (words_before (counts_of q) a) + n)
      (ap (λ p. rank point_rules p s) x.next ∙ rank-line (set q a x.rest) (send run.steps w x.step) s x.runs ∙ ap (λ c. word_rank c s) (counts-taken q a x.step x.rest x.queue))

  -- ---- from words to orders

  pub word-order : (q : Queues) (w : World) (s : Word) → length q ≤ 8 → AreQueued run.steps q → Runs point_rules (at q w) s → IsOver point_rules (behind point_rules (at q w) s) → IsOrder kind run.steps q w (line q s)
  word-order q w s few queued h over =
      let v = runs-serve q w s h in
      record {
        known = known-line run.steps q s queued v;
        in_turn = λ i lt. (get_or (rest_of q s) i [], own-line run.steps q s queued v i);
        each = each-line q w s queued h;
        longest = λ i lt. ends i (get_or (rest_of q s) i []) refl (sym (ap (λ p. point_rules.can p i) (behind-line q w s h)) ∙ over i (omega arith)) (own-line run.steps q s queued v i);
      }
    where
      ends : (i : ℕ) (xs : List ℕ) → get_or (rest_of q s) i [] ≡ xs → (is_some_left (get_or (rest_of q s) i []) && may_come kind (send_all run.steps w (line q s)) i) ≡ false
          → own_steps run.steps i (line q s) ++ get_or (rest_of q s) i [] ≡ get_or q i []
          → (own_steps run.steps i (line q s) ≡ get_or q i []) ⊎ (may_come kind (send_all run.steps w (line q s)) i ≡ false)
      ends i [] e can own = inl (sym (append-nil (own_steps run.steps i (line q s))) ∙ ap (λ r. own_steps run.steps i (line q s) ++ r) (sym e) ∙ own)
      ends i (k ∷ ks) e can own = inr (sym (ap (λ r. is_some_left r && may_come kind (send_all run.steps w (line q s)) i) e) ∙ can)

  -- ---- from orders to words

  -- what an order is as far as it has come
  record IsBegun (q : Queues) (w : World) (ks : List ℕ) : Type 0 where
    pub known : All (λ k. session_of run.steps k < length q) ks
    pub in_turn : (i : ℕ) → i < length q → IsPrefix (own_steps run.steps i ks) (get_or q i [])
    pub each : EachMayCome kind run.steps w ks

  abbrev pub word_of : List ℕ → Word
  word_of ks = map (session_of run.steps) ks

  record IsWordOf (q : Queues) (w : World) (ks : List ℕ) : Type 0 where
    pub runs : Runs point_rules (at q w) (word_of ks)
    pub line_is : line q (word_of ks) ≡ ks

  begun-word : (q : Queues) (w : World) (ks : List ℕ) → length q ≤ 8 → IsBegun q w ks → IsWordOf q w ks
  begun-word q w [] few h = record { runs = tt; line_is = refl }
  begun-word q w (k ∷ ks) few h =
      let a = session_of run.steps k in
      let inside : a < length q = All-head (λ k. session_of run.steps k < length q) k ks h.known in
      let first = h.in_turn a inside in
      let rest : List ℕ = own_steps run.steps a ks ++ first.0 in
      let queue : get_or q a [] ≡ k ∷ rest = sym first.1 ∙ ap (λ l. l ++ first.0) (own-here run.steps a k ks refl) in
      let long = length-set q a rest in
      let later : IsBegun (set q a rest) (send run.steps w k) ks = record {
        known = subst (λ n. All (λ k. session_of run.steps k < n) ks) (sym long) (All-tail (λ k. session_of run.steps k < length q) k ks h.known);
        in_turn = λ i lt. turn i (omega arith) first.0 inside h.in_turn (cases_eq i a);
        each = h.each.1;
      } in
      let x = begun-word (set q a rest) (send run.steps w k) ks (omega arith) later in
      record {
        runs = (omega arith, ap (λ xs. is_some_left xs && may_come kind w a) queue ∙ h.each.0, subst (λ p. Runs point_rules p (word_of ks)) (sym (ap (point_with (at q w) a) queue)) x.runs);
        line_is = line-takes q a k rest (word_of ks) queue ∙ ap (λ l. k ∷ l) x.line_is;
      }
    where
      turn : (i : ℕ) → i < length q → (t : List ℕ) → session_of run.steps k < length q → ((j : ℕ) → j < length q → IsPrefix (own_steps run.steps j (k ∷ ks)) (get_or q j []))
          → (i ≡ session_of run.steps k) ⊎ (i ≡ session_of run.steps k → ⊥)
          → IsPrefix (own_steps run.steps i ks) (get_or (set q (session_of run.steps k) (own_steps run.steps (session_of run.steps k) ks ++ t)) i [])
      turn i lt t inside all (inl e) = (
        t,
        ap (λ j. own_steps run.steps j ks ++ t) e ∙ sym (get_or-set_same q (session_of run.steps k) (own_steps run.steps (session_of run.steps k) ks ++ t) [] inside)
            ∙ ap (λ j. get_or (set q (session_of run.steps k) (own_steps run.steps (session_of run.steps k) ks ++ t)) j []) (sym e),
      )
      turn i lt t inside all (inr f) =
          let p = all i lt in
          (p.0, ap (λ l. l ++ p.0) (sym (own-other run.steps i k ks (λ e. f (sym e)))) ∙ p.1 ∙ sym (get_or-set_other q (session_of run.steps k) i (own_steps run.steps (session_of run.steps k) ks ++ t) [] f))

  -- an order is the run.steps of a maximal word
  pub record IsWordOfOrder (q : Queues) (w : World) (ks : List ℕ) : Type 0 where
    pub runs : Runs point_rules (at q w) (word_of ks)
    pub line_is : line q (word_of ks) ≡ ks
    pub over : IsOver point_rules (behind point_rules (at q w) (word_of ks))

  pub order-word : (q : Queues) (w : World) (ks : List ℕ) → length q ≤ 8 → AreQueued run.steps q → IsOrder kind run.steps q w ks → IsWordOfOrder q w ks
  order-word q w ks few queued h = record {
    runs = x.runs;
    line_is = x.line_is;
    over = λ i lt. ap (λ p. point_rules.can p i) (behind-line q w (word_of ks) x.runs) ∙ ends i (cases_lt i (length q));
  }
    where
      x : IsWordOf q w ks
      x = begun-word q w ks few (record { known = h.known; in_turn = h.in_turn; each = h.each })

      none : (i : ℕ) → get_or (rest_of q (word_of ks)) i [] ≡ [] → (is_some_left (get_or (rest_of q (word_of ks)) i []) && may_come kind (send_all run.steps w (line q (word_of ks))) i) ≡ false
      none i e = ap (λ r. is_some_left r && may_come kind (send_all run.steps w (line q (word_of ks))) i) e

      ends : (i : ℕ) → (i < length q) ⊎ (length q ≤ i) → (is_some_left (get_or (rest_of q (word_of ks)) i []) && may_come kind (send_all run.steps w (line q (word_of ks))) i) ≡ false
      ends i (inr le) = none i (get_or_past (rest_of q (word_of ks)) i [] (let l = length-rest q (word_of ks) in omega arith))
      ends i (inl lt) = elim (h.longest i lt) [
        | inl e ↦ none i (nothing-behind (own_steps run.steps i ks) (get_or (rest_of q (word_of ks)) i [])
            (ap (λ l. own_steps run.steps i l ++ get_or (rest_of q (word_of ks)) i []) (sym x.line_is) ∙ own-line run.steps q (word_of ks) queued (runs-serve q w (word_of ks) x.runs) i ∙ sym e))
        | inr f ↦ ap (λ l. is_some_left (get_or (rest_of q (word_of ks)) i []) && may_come kind (send_all run.steps w l) i) x.line_is
            ∙ ap (λ b. is_some_left (get_or (rest_of q (word_of ks)) i []) && b) f ∙ and-none (is_some_left (get_or (rest_of q (word_of ks)) i []))
      ]
