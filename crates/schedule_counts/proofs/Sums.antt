-- Sums over states.
use Rattle.std.proofs.Common.{◌≡◌, refl, sym, ap, ◌∙◌, subst, ℕ, ◌+◌, ◌<◌, ◌≤◌, ◌^◌, ◌==◌, ◌||◌, ◌⊎◌, inl, inr, Bool, true, false, cond, All, List, [], ◌∷◌, ◌++◌, Some, length, map, arith, eqb-true, eq-eqb}
use Rattle.std.specs.Prelude.{slice_get}
use Rattle.std.specs.List.{IsDistinct, list_any, AllByRecursion}
use Rattle.std.proofs.lemmas.Bool.{false≢true}
use Rattle.std.proofs.lemmas.List.{append-nil, length-map, length-append}
use Rattle.std.proofs.lemmas.List.Elements.{All-head, All-tail}
use Rattle.std.proofs.lemmas.Map.Steps.{length-le_from_distinct_below}
use Rattle.binding_model.specs.declared.tables.Table.{Table}
use Rattle.path_counts.specs.Paths.{Has, AreApart}
use Rattle.path_counts.proofs.Lists.{has-left, has-right, has-cases, has-mapped, apart-map, apart-append}
use Rattle.bound_specs.specs.Spec.{Spec, Step, queues_of, counts_of}
use Rattle.machine_model.specs.World.{World, send, send_all}
use Rattle.spec_schedules.specs.declared.kind.Kind.{Kind}
use Rattle.spec_schedules.specs.Schedules.{session_of, own_steps, may_come, EachMayCome, IsOrder, IsRank, permutations}
use Rattle.spec_schedules.proofs.Ranks.{word_rank}
use Rattle.spec_schedules.proofs.Letters.{AreQueued, own-here, own-other, spec-queued, length-queues}
use Rattle.spec_schedules.proofs.Words.{word_of, order-word, runs-serve}
use Rattle.spec_schedules.proofs.Few.{word-rank-is}
use Rattle.order_classes.specs.declared.shows.Shows.{Shows}
use Rattle.order_classes.specs.Shows.{shows_in}
use Rattle.schedule_counts.specs.declared.counting.FinalState.{FinalState}
use Rattle.schedule_counts.specs.States.{AreFinalStates}
use Rattle.schedule_counts.specs.Classes.{count_of, total_count, AreClasses}

-- ---- no order goes on from another

-- of two fronts of one list one is a front of the other
fronts : (xs ys a b : List ℕ) → xs ++ a ≡ ys ++ b → ((t : List ℕ) × (xs ++ t ≡ ys)) ⊎ ((t : List ℕ) × (ys ++ t ≡ xs))
fronts [] ys a b e = inl (ys, refl)
fronts (x ∷ xs) [] a b e = inr (x ∷ xs, refl)
fronts (x ∷ xs) (y ∷ ys) a b e =
    let head : x ≡ y = cc in
    elim (fronts xs ys a b (let tails : xs ++ a ≡ ys ++ b = cc in tails)) [
      | inl r ↦ inl (r.0, (λ i. head i ∷ r.1 i))
      | inr r ↦ inr (r.0, (λ i. sym head i ∷ r.1 i))
    ]

-- ---- numbers without a repeat

unequal : (x y : ℕ) → (x ≡ y → ⊥) → (x == y) ≡ false
unequal x y f = at (x == y) refl
  where
    at : (b : Bool) → (x == y) ≡ b → (x == y) ≡ false
    at true e = absurd (f (eqb-true x y e))
    at false e = e

not-any : (x : ℕ) (ys : List ℕ) → (Has x ys → ⊥) → AllByRecursion (λ y. (x == y) ≡ false) ys
not-any x [] f = tt
not-any x (y ∷ ys) f = (unequal x y (λ e. f (inl e)), not-any x ys (λ h. f (inr h)))

apart-distinct : (xs : List ℕ) → AreApart xs → IsDistinct (λ x y. x == y) xs
unfolding IsDistinct
apart-distinct [] a = tt
apart-distinct (x ∷ xs) a = (not-any x xs a.0, apart-distinct xs a.1)

any-has : (x : ℕ) (ys : List ℕ) → list_any (λ y. x == y) ys ≡ true → Has x ys
any-has x [] e = absurd (cc)
any-has x (y ∷ ys) e = at (x == y) refl e (λ h. any-has x ys h)
  where
    at : (b : Bool) → (x == y) ≡ b → (b || list_any (λ z. x == z) ys) ≡ true → (list_any (λ z. x == z) ys ≡ true → Has x ys) → Has x (y ∷ ys)
    at true is e rest = inl (eqb-true x y is)
    at false is e rest = inr (rest e)

module _ (kind : Kind) (steps : List Step) where
  comes-behind : (w : World) (ks more : List ℕ) (k : ℕ) → EachMayCome kind steps w (ks ++ k ∷ more) → may_come kind (send_all steps w ks) (session_of steps k) ≡ true
  comes-behind w [] more k h = h.0
  comes-behind w (j ∷ ks) more k h = comes-behind (send steps w j) ks more k h.1

  known-behind : (n : ℕ) (ks more : List ℕ) (k : ℕ) → All (λ j. session_of steps j < n) (ks ++ k ∷ more) → session_of steps k < n
  known-behind n [] more k h = All-head (λ j. session_of steps j < n) k more h
  known-behind n (j ∷ ks) more k h = known-behind n ks more k (All-tail (λ j. session_of steps j < n) j (ks ++ k ∷ more) h)

  -- so many steps are a session's, and one more behind them
  own-longer : (i : ℕ) (ks more : List ℕ) (k : ℕ) → session_of steps k ≡ i → length (own_steps steps i ks) < length (own_steps steps i (ks ++ k ∷ more))
  own-longer i [] more k e = (let l = ap length (own-here steps i k more e) in omega arith)
  own-longer i (j ∷ ks) more k e = at (session_of steps j == i) refl (own-longer i ks more k e)
    where
      at : (b : Bool) → (session_of steps j == i) ≡ b → length (own_steps steps i ks) < length (own_steps steps i (ks ++ k ∷ more))
          → length (own_steps steps i (j ∷ ks)) < length (own_steps steps i (j ∷ (ks ++ k ∷ more)))
      at true is lt =
          let same = eqb-true (session_of steps j) i is in
          let a = ap length (own-here steps i j ks same) in
          let b = ap length (own-here steps i j (ks ++ k ∷ more) same) in
          omega arith
      at false is lt =
          let f : session_of steps j ≡ i → ⊥ = (λ s. false≢true (sym is ∙ eq-eqb (session_of steps j) i s)) in
          let a = ap length (own-other steps i j ks f) in
          let b = ap length (own-other steps i j (ks ++ k ∷ more) f) in
          omega arith

module _ (kind : Kind) (run : Spec) (start : World) (sessions : run.sessions ≤ 8) where
  abbrev IsOne : List ℕ → Type 0
  IsOne ks = IsOrder kind run.steps (queues_of run) start ks

  no-longer : (ks more : List ℕ) (k : ℕ) → IsOne ks → IsOne (ks ++ k ∷ more) → ⊥
  no-longer ks more k h l =
      let i = session_of run.steps k in
      let lt = known-behind kind run.steps (length (queues_of run)) ks more k l.known in
      elim (h.longest i lt) [
        | inl e ↦ (let p = l.in_turn i lt in
            let longer = own-longer kind run.steps i ks more k refl in
            let long = sym (length-append (own_steps run.steps i (ks ++ k ∷ more)) p.0) ∙ ap length p.1 in
            let same = ap length e in
            absurd (omega arith))
        | inr f ↦ absurd (false≢true (sym f ∙ comes-behind kind run.steps start ks more k l.each))
      ]

  same-if-front : (ks ls : List ℕ) → IsOne ks → IsOne ls → (t : List ℕ) → ks ++ t ≡ ls → ks ≡ ls
  same-if-front ks ls h l [] e = sym (append-nil ks) ∙ e
  same-if-front ks ls h l (k ∷ t) e = absurd (no-longer ks t k h (subst (λ xs. IsOne xs) (sym e) l))

  one-order : (ks ls : List ℕ) (r : ℕ) → IsOne ks → IsOne ls → IsRank (queues_of run) ks r → IsRank (queues_of run) ls r → ks ≡ ls
  one-order ks ls r h l a b = elim (fronts ks ls a.begins.0 b.begins.0 (a.begins.1 ∙ sym b.begins.1)) [
    | inl t ↦ same-if-front ks ls h l t.0 t.1
    | inr t ↦ sym (same-if-front ls ks l h t.0 t.1)
  ]

  abbrev rank_of : List ℕ → ℕ
  rank_of ks = word_rank (counts_of (queues_of run)) (word_of kind run ks)

  rank-is : (ks : List ℕ) → IsOne ks → IsRank (queues_of run) ks (rank_of ks)
  rank-is ks h =
      let queued : AreQueued run.steps (queues_of run) = spec-queued run.steps run.sessions in
      let few : length (queues_of run) ≤ 8 = (let l = length-queues run.steps 0 run.sessions in omega arith) in
      let x = order-word kind run (queues_of run) start ks few queued h in
      subst (λ l. IsRank (queues_of run) l (rank_of ks)) x.line_is (word-rank-is run.steps (queues_of run) (word_of kind run ks) queued (runs-serve kind run (queues_of run) start (word_of kind run ks) x.runs))

  -- there are no more orders than permutations
  pub orders-few : (orders : List (List ℕ)) → AreApart orders → ((ks : List ℕ) → Has ks orders → IsOne ks) → length orders ≤ permutations (queues_of run)
  orders-few orders apart each =
      let ranks = map rank_of orders in
      let apart_ranks : AreApart ranks = apart-map rank_of orders (λ x y hx hy e.
      one-order x y (rank_of x) (each x hx) (each y hy) (rank-is x (each x hx)) (subst (λ n. IsRank (queues_of run) y n) (sym e) (rank-is y (each y hy)))) apart in
      let le = length-le_from_distinct_below ranks (permutations (queues_of run)) (apart-distinct ranks apart_ranks)
      (λ n any. let h = has-mapped rank_of n orders (any-has n ranks any) in
      subst (λ m. m < permutations (queues_of run)) (sym h.2) (rank-is h.0 (each h.0 h.1)).inside) in
      let l = length-map orders rank_of in
      omega arith

  -- ---- the orders of several states

  module _ (tables : List Table) (shown : List Shows) (all : List FinalState) (is : AreFinalStates kind tables run start shown all) where
    abbrev orders_at : List FinalState → List (List ℕ)
    orders_at [] = []
    orders_at (f ∷ fs) = is.orders f.state ++ orders_at fs

    orders-in : (fs : List FinalState) (ks : List ℕ) → Has ks (orders_at fs) → (f : FinalState) × Has f fs × Has ks (is.orders f.state)
    orders-in [] ks h = absurd h
    orders-in (f ∷ fs) ks h = elim (has-cases ks (is.orders f.state) (orders_at fs) h) [
      | inl a ↦ (f, inl refl, a)
      | inr b ↦ (let r = orders-in fs ks b in (r.0, inr r.1, r.2))
    ]

    in-orders : (fs : List FinalState) (f : FinalState) (ks : List ℕ) → Has f fs → Has ks (is.orders f.state) → Has ks (orders_at fs)
    in-orders [] f ks h k = absurd h
    in-orders (g ∷ fs) f ks (inl e) k = has-left ks (is.orders g.state) (orders_at fs) (subst (λ (x : FinalState). Has ks (is.orders x.state)) e k)
    in-orders (g ∷ fs) f ks (inr h) k = has-right ks (is.orders g.state) (orders_at fs) (in-orders fs f ks h k)

    orders-apart : (fs : List FinalState) → AreApart fs → ((f : FinalState) → Has f fs → Has f all) → AreApart (orders_at fs)
    orders-apart [] a sub = tt
    orders-apart (f ∷ fs) a sub =
        apart-append (is.orders f.state) (orders_at fs) (is.entries f (sub f (inl refl))).1.apart (orders-apart fs a.1 (λ g h. sub g (inr h)))
        (λ ks x y. let r = orders-in fs ks y in
        a.0 (subst (λ g. Has g fs) (sym (is.one ks f r.0 (sub f (inl refl)) (sub r.0 (inr r.1)) x r.2)) r.1))

    orders-long : (fs : List FinalState) → ((f : FinalState) → Has f fs → Has f all) → length (orders_at fs) ≡ total_count fs
    orders-long [] sub = refl
    orders-long (f ∷ fs) sub =
        let l = length-append (is.orders f.state) (orders_at fs) in
        let a = (is.entries f (sub f (inl refl))).1.long in
        let b = orders-long fs (λ g h. sub g (inr h)) in
        omega arith

    -- the states that show what has a number
    abbrev with_number : ℕ → List FinalState → List FinalState
    with_number n [] = []
    with_number n (f ∷ fs) = cond (f.shows == n) (f ∷ with_number n fs) (with_number n fs)

    with-in : (n : ℕ) (fs : List FinalState) (f : FinalState) → Has f (with_number n fs) → Has f fs × (f.shows ≡ n)
    with-in n [] f h = absurd h
    with-in n (g ∷ fs) f h = at (g.shows == n) refl h (λ x. with-in n fs f x)
      where
        at : (b : Bool) → (g.shows == n) ≡ b → Has f (cond b (g ∷ with_number n fs) (with_number n fs)) → (Has f (with_number n fs) → Has f fs × (f.shows ≡ n)) → Has f (g ∷ fs) × (f.shows ≡ n)
        at true e (inl x) rest = (inl x, ap (λ (y : FinalState). y.shows) x ∙ eqb-true g.shows n e)
        at true e (inr x) rest = let r = rest x in (inr r.0, r.1)
        at false e x rest = let r = rest x in (inr r.0, r.1)

    in-with : (fs : List FinalState) (f : FinalState) → Has f fs → Has f (with_number f.shows fs)
    in-with [] f h = absurd h
    in-with (g ∷ fs) f (inl e) = subst (λ b. Has f (cond b (g ∷ with_number f.shows fs) (with_number f.shows fs))) (sym (eq-eqb g.shows f.shows (ap (λ (y : FinalState). y.shows) (sym e)))) (inl e)
    in-with (g ∷ fs) f (inr h) = at (g.shows == f.shows) (in-with fs f h)
      where
        at : (b : Bool) → Has f (with_number f.shows fs) → Has f (cond b (g ∷ with_number f.shows fs) (with_number f.shows fs))
        at true x = inr x
        at false x = x

    with-apart : (n : ℕ) (fs : List FinalState) → AreApart fs → AreApart (with_number n fs)
    with-apart n [] a = tt
    with-apart n (f ∷ fs) a = at (f.shows == n) (with-apart n fs a.1)
      where
        at : (b : Bool) → AreApart (with_number n fs) → AreApart (cond b (f ∷ with_number n fs) (with_number n fs))
        at true x = (λ h. a.0 (with-in n fs f h).0, x)
        at false x = x

    with-total : (n : ℕ) (fs : List FinalState) → total_count (with_number n fs) ≡ count_of n fs
    with-total n [] = refl
    with-total n (f ∷ fs) = at (f.shows == n) (with-total n fs)
      where
        at : (b : Bool) → total_count (with_number n fs) ≡ count_of n fs → total_count (cond b (f ∷ with_number n fs) (with_number n fs)) ≡ cond b (f.count + count_of n fs) (count_of n fs)
        at true e = ap (λ m. f.count + m) e
        at false e = e

    each-at : (f : FinalState) (ks : List ℕ) → Has f all → Has ks (is.orders f.state) → IsOne ks × (slice_get shown f.shows ≡ Some (shows_in tables run.sessions (send_all run.steps start ks)))
    each-at f ks h k =
        let e = is.entries f h in
        let x = e.1.each ks k in
        (x.0, e.2 ∙ ap (λ w. Some (shows_in tables run.sessions w)) (sym x.1))

    pub classes-of : permutations (queues_of run) < 2 ^ 63 → AreClasses kind tables run start shown all
    classes-of few = record {
      orders = λ n. orders_at (with_number n all);
      class = λ n. record {
        apart = orders-apart (with_number n all) (with-apart n all is.apart) (λ f h. (with-in n all f h).0);
        long = orders-long (with_number n all) (λ f h. (with-in n all f h).0) ∙ with-total n all;
        each = λ ks h.
            (let r = orders-in (with_number n all) ks h in
            let f = with-in n all r.0 r.1 in
            let x = each-at r.0 ks f.0 r.2 in
            (x.0, ap (slice_get shown) (sym f.1) ∙ x.1));
      };
      some = λ ks h.
          (let x = is.some ks h in
          (x.0.shows, in-orders (with_number x.0.shows all) x.0 ks (in-with all x.0 x.1) x.2));
      one = λ ks n m h k.
          (let x = orders-in (with_number n all) ks h in
          let y = orders-in (with_number m all) ks k in
          let f = with-in n all x.0 x.1 in
          let g = with-in m all y.0 y.1 in
          sym f.1 ∙ ap (λ (s : FinalState). s.shows) (is.one ks x.0 y.0 f.0 g.0 x.2 y.2) ∙ g.1);
      below = λ n ks rank h r.
          (let x = orders-in (with_number n all) ks h in
          let f = with-in n all x.0 x.1 in
          (x.0, f.0, f.1, (is.entries x.0 f.0).1.below ks rank x.2 r));
      met = λ f h. let x = (is.entries f h).1.met in (x.0, in-orders (with_number f.shows all) f x.0 (in-with all f h) x.1, x.2);
      few =
          (let le = orders-few (orders_at all) (orders-apart all is.apart (λ f h. h)) (λ ks h. let r = orders-in all ks h in (each-at r.0 ks r.1 r.2).0) in
          let l = orders-long all (λ f h. h) in
          omega arith);
    }
