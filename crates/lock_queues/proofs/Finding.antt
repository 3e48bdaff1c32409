-- The ring that is computed is a shortest one, no session twice.
use Rattle.std.proofs.Common.{◌≡◌, refl, sym, ap, ◌∙◌, subst, ℕ, zero, suc, ◌+◌, ◌<◌, ◌≤◌, Bool, true, false, cond, List, [], ◌∷◌, length}
use Rattle.std.proofs.Common.{Option, Some, None, is_some, ◌⊎◌, inl, inr, ⊎_elim, arith, eqb-true, eq-eqb}
use Rattle.std.proofs.lemmas.Bool.{and_parts, both_ways, or_cases}
use Rattle.lock_queues.specs.declared.wait.Wait.{Wait}
use Rattle.lock_queues.specs.Locks.{Look, waits_for, way_below, closes_ring}
use Rattle.lock_queues.specs.Reasons.{Among}
use Rattle.lock_queues.specs.Rings.{first_below, leads_on, reaches, stops, longest, ring_of, Along, Once, AllBelow, ComesFirst, IsRing}

-- ---- the least number that passes

-- it passes, and none before it does
pub record IsFirst (n : ℕ) (test : ℕ → Bool) (k : ℕ) : Type 0 where
  pub below : k < n
  pub passes : test k ≡ true
  pub least : (j : ℕ) → j < k → test j ≡ false

pub first-none : (n : ℕ) (test : ℕ → Bool) → first_below n test ≡ None → (j : ℕ) → j < n → test j ≡ false
first-none zero test e j lt = absurd (omega (arith, lt))
first-none (suc n) test e j lt = at (first_below n test) refl e (first-none n test)
  where
    last : (c : Bool) → test n ≡ c → cond c (Some n) None ≡ None → test n ≡ false
    last true is k = absurd (let x : Some n ≡ None = k in cc)
    last false is k = is

    at : (o : Option ℕ) → first_below n test ≡ o → (let x : Option ℕ = elim o [ None ↦ cond (test n) (Some n) None | Some k ↦ Some k ] in x) ≡ None
        → (first_below n test ≡ None → (j : ℕ) → j < n → test j ≡ false) → test j ≡ false
    at None is k rec =
        let cases : (j ≡ n) ⊎ (j < n) = grind (arith, lt) in
        ⊎_elim (λ h. ap test h ∙ last (test n) refl k) (λ h. rec is j h) cases
    at (Some x) is k rec = absurd (let y : Some x ≡ None = k in cc)

pub first-is : (n : ℕ) (test : ℕ → Bool) (k : ℕ) → first_below n test ≡ Some k → IsFirst n test k
first-is zero test k e = absurd (let x : None ≡ Some k = e in cc)
first-is (suc n) test k e = at (first_below n test) refl e (first-is n test)
  where
    last : (c : Bool) → test n ≡ c → first_below n test ≡ None → cond c (Some n) None ≡ Some k → IsFirst (suc n) test k
    last true is none h =
        let same : n ≡ k = cc in
        subst (IsFirst (suc n) test) same (record { below = omega arith; passes = is; least = first-none n test none })
    last false is none h = absurd (let x : None ≡ Some k = h in cc)

    at : (o : Option ℕ) → first_below n test ≡ o → (let x : Option ℕ = elim o [ None ↦ cond (test n) (Some n) None | Some k ↦ Some k ] in x) ≡ Some k
        → ((j : ℕ) → first_below n test ≡ Some j → IsFirst n test j) → IsFirst (suc n) test k
    at None is h rec = last (test n) refl is h
    at (Some x) is h rec =
        let same : x ≡ k = cc in
        let r : IsFirst n test k = rec k (is ∙ ap Some same) in
        let lt : k < n = r.below in
        record { below = omega (arith, lt); passes = r.passes; least = r.least }

-- where one passes there is a least one
pub first-found : (n : ℕ) (test : ℕ → Bool) (j : ℕ) → j < n → test j ≡ true → (k : ℕ) × (first_below n test ≡ Some k)
first-found n test j lt h = at (first_below n test) refl
  where
    at : (o : Option ℕ) → first_below n test ≡ o → (k : ℕ) × (first_below n test ≡ Some k)
    at None is = absurd (both_ways (test j) (first-none n test is j lt) h)
    at (Some k) is = (k, is)

leads-from : (b x : Bool) → b ≡ true → x ≡ true → (let y : Bool = elim b [ true ↦ x | false ↦ false ] in y) ≡ true
leads-from true x p q = q
leads-from false x p q = p

pub leads-parts : (b x : Bool) → (let y : Bool = elim b [ true ↦ x | false ↦ false ] in y) ≡ true → (b ≡ true) × (x ≡ true)
leads-parts true x p = (refl, p)
leads-parts false x p = absurd (let y : false ≡ true = p in cc)

module _ (edge : ℕ → ℕ → Bool) (count : ℕ) where
  abbrev next : ℕ → ℕ → ℕ → (ℕ → Bool)
  next n a b = leads_on edge (λ c. reaches edge count n c b) a

  -- ---- reaching

  reaches-step : (n a b d : ℕ) → d < count → edge a d ≡ true → reaches edge count n d b ≡ true → reaches edge count (suc n) a b ≡ true
  reaches-step n a b d lt e r =
      let f = first-found count (next n a b) d lt (leads-from (edge a d) (reaches edge count n d b) e r) in
      ap is_some f.1

  -- the next session
  pub record IsNext (n a b d : ℕ) : Type 0 where
    pub first : first_below count (next n a b) ≡ Some d
    pub below : d < count
    pub edge_is : edge a d ≡ true
    pub rest : reaches edge count n d b ≡ true
    pub least : (j : ℕ) → j < d → next n a b j ≡ false

  pub reaches-next : (n a b : ℕ) → reaches edge count (suc n) a b ≡ true → (d : ℕ) × IsNext n a b d
  reaches-next n a b h = at (first_below count (next n a b)) refl h
    where
      at : (o : Option ℕ) → first_below count (next n a b) ≡ o → is_some o ≡ true → (d : ℕ) × IsNext n a b d
      at None is k = absurd (let x : false ≡ true = k in cc)
      at (Some d) is k =
          let f = first-is count (next n a b) d is in
          let p = leads-parts (edge a d) (reaches edge count n d b) f.passes in
          (d, record { first = is; below = f.below; edge_is = p.0; rest = p.1; least = f.least })

  reaches-join : (n m k a c b : ℕ) → k ≡ n + m → reaches edge count n a c ≡ true → reaches edge count m c b ≡ true → reaches edge count k a b ≡ true
  reaches-join zero m k a c b is p q =
      let same : k ≡ m = omega (arith, is) in
      let start : c ≡ a = sym (eqb-true a c p) in
      subst (λ x. reaches edge count x a b ≡ true) (sym same) (subst (λ x. reaches edge count m x b ≡ true) start q)
  reaches-join (suc n) m zero a c b is p q = absurd (omega (arith, is))
  reaches-join (suc n) m (suc k) a c b is p q =
      let r = reaches-next n a c p in
      let x = r.1 in
      reaches-step k a b r.0 x.below x.edge_is (reaches-join n m k r.0 c b (omega (arith, is)) x.rest q)

  -- what the test for a ring finds is reached
  pub way-reaches : (n a b : ℕ) → n ≤ count → b < count → way_below edge n a b ≡ true
      → (m : ℕ) × (m < longest n) × (reaches edge count (suc m) a b ≡ true)
  way-reaches zero a b le lt h = (0, omega arith, reaches-step 0 a b b lt h (eq-eqb b b refl))
  way-reaches (suc n) a b le lt h =
      ⊎_elim (λ k. let r = way-reaches n a b (omega (arith, le)) lt k in let less : r.0 < longest n = r.1 in (r.0, omega (arith, less), r.2))
      (λ k.
      let p = and_parts (way_below edge n a n) _ k in
      let r = way-reaches n a n (omega (arith, le)) (omega (arith, le)) p.0 in
      let q = way-reaches n n b (omega (arith, le)) lt p.1 in
      let less : r.0 < longest n = r.1 in
      let less2 : q.0 < longest n = q.1 in
      (r.0 + suc q.0, omega (arith, less, less2), reaches-join (suc r.0) (suc q.0) (suc (r.0 + suc q.0)) a n b (omega arith) r.2 q.2))
      (or_cases (way_below edge n a b) _ h)

  -- each way is reached
  along-reaches : (a : ℕ) (ys : List ℕ) (b : ℕ) → b < count → Along edge a ys b → AllBelow count ys → reaches edge count (suc (length ys)) a b ≡ true
  along-reaches a [] b lt h low = reaches-step 0 a b b lt h (eq-eqb b b refl)
  along-reaches a (y ∷ ys) b lt h low = reaches-step (suc (length ys)) a b y low.0 h.0 (along-reaches y ys b lt h.1 low.1)

  -- ---- the sessions of a way

  pub stops-next : (n a b d : ℕ) → IsNext n a b d → stops edge count (suc n) a b ≡ a ∷ stops edge count n d b
  stops-next n a b d x = ap (λ o. let xs : List ℕ = a ∷ elim o [ None ↦ [] | Some c ↦ stops edge count n c b ] in xs) x.first

  -- they go along the edges
  pub record GoesAlong (n a b : ℕ) (xs : List ℕ) : Type 0 where
    pub others : List ℕ
    pub from : xs ≡ a ∷ others
    pub along : Along edge a others b
    pub many : length others ≡ n
    pub least : (ys : List ℕ) → Along edge a ys b → AllBelow count ys → length ys ≡ n → ComesFirst others ys

  stops-along : (n a b : ℕ) → b < count → reaches edge count (suc n) a b ≡ true → GoesAlong n a b (stops edge count (suc n) a b)
  stops-along zero a b lt h =
      let r = reaches-next 0 a b h in
      let x = r.1 in
      record {
        others = [];
        from = stops-next 0 a b r.0 x;
        along = subst (λ c. edge a c ≡ true) (eqb-true r.0 b x.rest) x.edge_is;
        many = refl;
        least = λ ys along low many. tt;
      }
  stops-along (suc n) a b lt h =
      let r = reaches-next (suc n) a b h in
      let x = r.1 in
      let y = stops-along n r.0 b lt x.rest in
      record {
        others = r.0 ∷ y.others;
        from = stops-next (suc n) a b r.0 x ∙ ap (λ xs. a ∷ xs) y.from;
        along = (x.edge_is, y.along);
        many = ap suc y.many;
        least = first-differs r.0 x y.others y.least;
      }
    where
      first-differs : (d : ℕ) → IsNext (suc n) a b d → (others : List ℕ)
          → ((ys : List ℕ) → Along edge d ys b → AllBelow count ys → length ys ≡ n → ComesFirst others ys)
          → (ys : List ℕ) → Along edge a ys b → AllBelow count ys → length ys ≡ suc n → ComesFirst (d ∷ others) ys
      first-differs d x others rec [] along low many = absurd (omega (arith, many))
      first-differs d x others rec (y ∷ ys) along low many =
          let cases : (y < d) ⊎ (d < y) ⊎ (d ≡ y) = grind arith in
          let len : length ys ≡ n = omega (arith, many) in
          let to : reaches edge count (suc n) y b ≡ true =
          subst (λ k. reaches edge count (suc k) y b ≡ true) len (along-reaches y ys b lt along.1 low.1) in
          ⊎_elim
          (λ k. absurd (both_ways (next (suc n) a b y) (x.least y k) (leads-from (edge a y) (reaches edge count (suc n) y b) along.0 to)))
          (λ k. ⊎_elim (λ l. inl l) (λ e. inr (e, rec ys (subst (λ z. Along edge z ys b) (sym e) along.1) low.1 len)) k) cases

  -- from each of them the end is reached
  stops-reach : (n a b c : ℕ) → reaches edge count n a b ≡ true → Among c (stops edge count n a b)
      → (m : ℕ) × (m < n) × (reaches edge count (suc m) c b ≡ true)
  stops-reach zero a b c h m = absurd m
  stops-reach (suc n) a b c h m =
      let r = reaches-next n a b h in
      at r.0 r.1 (subst (Among c) (stops-next n a b r.0 r.1) m) (λ k. stops-reach n r.0 b c r.1.rest k)
    where
      at : (d : ℕ) → IsNext n a b d → (c ≡ a) ⊎ Among c (stops edge count n d b)
          → (Among c (stops edge count n d b) → (m : ℕ) × (m < n) × (reaches edge count (suc m) c b ≡ true))
          → (m : ℕ) × (m < suc n) × (reaches edge count (suc m) c b ≡ true)
      at d x (inl e) rec = (n, omega arith, subst (λ y. reaches edge count (suc n) y b ≡ true) (sym e) h)
      at d x (inr k) rec = let q = rec k in let less : q.0 < n = q.1 in (q.0, omega (arith, less), q.2)

  -- of a shortest way back none stands there twice
  stops-once : (i n : ℕ) → ((m : ℕ) → m < n → reaches edge count (suc m) i i ≡ false) → (k a p : ℕ) → p + k ≡ suc n → reaches edge count p i a ≡ true
      → reaches edge count k a i ≡ true → Once (stops edge count k a i)
  stops-once i n least zero a p is to from = tt
  stops-once i n least (suc k) a p is to from =
      let r = reaches-next k a i from in
      let x = r.1 in
      let one : reaches edge count 1 a r.0 ≡ true = reaches-step 0 a r.0 r.0 x.below x.edge_is (eq-eqb r.0 r.0 refl) in
      subst Once (sym (stops-next k a i r.0 x)) (
        (λ m.
            let q = stops-reach k r.0 i a x.rest m in
            let less : q.0 < k = q.1 in
            both_ways (reaches edge count (suc (p + q.0)) i i) (least (p + q.0) (omega (arith, less, is)))
            (reaches-join p (suc q.0) (suc (p + q.0)) i a i (omega arith) to q.2)),
        stops-once i n least k r.0 (suc p) (omega (arith, is)) (reaches-join p 1 (suc p) i a r.0 (omega arith) to one) x.rest,
      )

  pub ring-is : (i : ℕ) → i < count → way_below edge count i i ≡ true → IsRing edge count i (ring_of edge count i)
  ring-is i lt h =
      let r = way-reaches count i i (omega arith) lt h in
      let f = first-found (longest count) (λ n. reaches edge count (suc n) i i) r.0 r.1 r.2 in
      let x = first-is (longest count) (λ n. reaches edge count (suc n) i i) f.0 f.1 in
      let y = stops-along f.0 i i lt x.passes in
      subst (IsRing edge count i) (sym (ap (λ o. let xs : List ℕ = elim o [ None ↦ [] | Some n ↦ stops edge count (suc n) i i ] in xs) f.1))
      (record {
        others = y.others;
        from = y.from;
        along = y.along;
        once = stops-once i f.0 x.least (suc f.0) i 0 (omega arith) (eq-eqb i i refl) x.passes;
        least = λ ys along low many. y.least ys along low (many ∙ y.many);
        shortest = λ ys along low. at f.0 x y.others y.many ys (along-reaches i ys i lt along low);
      })
    where
      at : (n : ℕ) → IsFirst (longest count) (λ n. reaches edge count (suc n) i i) n → (others : List ℕ) → length others ≡ n → (ys : List ℕ)
          → reaches edge count (suc (length ys)) i i ≡ true → length others ≤ length ys
      at n x others many ys to =
          let cases : (length ys < n) ⊎ (n ≤ length ys) = grind arith in
          ⊎_elim (λ k. absurd (both_ways _ (x.least (length ys) k) to)) (λ k. omega (arith, k, many)) cases

pub rings-found : (count : ℕ) (look : Look) (waits : List Wait) (i : ℕ) → i < count → closes_ring count look waits i ≡ true
    → IsRing (waits_for look waits) count i (ring_of (waits_for look waits) count i)
rings-found count look waits i lt h = ring-is (waits_for look waits) count i lt h
