-- A ring by rows: what the rows have, and that the hops of the least way are those of the ring.
use Rattle.std.proofs.Common.{◌≡◌, ◌≢◌, refl, sym, ap, ◌∙◌, subst, ℕ, zero, suc, ◌<◌, ◌≤◌, ◌⊎◌, ⊎_elim, inl, inr, arith}
use Rattle.std.proofs.Common.{Bool, true, false, cond, not, ◌&&◌, ◌||◌, ◌==◌, eqb-true, eq-eqb, Option, Some, None, is_some}
use Rattle.std.proofs.Common.{List, [], ◌∷◌, ◌++◌, length, get_or, append-nil, length-append, replicate, set}
use Rattle.std.proofs.lemmas.List.{get_or_append_left, get_or-set_same, get_or-set_other, length-replicate}
use Rattle.std.proofs.Math.Seq.{get_or-append_seam}
use Rattle.std.proofs.lemmas.Bool.{both_ways, cases_eq, false_from_ne_true}
use Rattle.std.specs.List.{list_any}
use Rattle.lock_queues.specs.declared.told.Hop.{Hop}
use Rattle.lock_queues.specs.declared.wait.Wait.{Wait}
use Rattle.lock_queues.specs.Locks.{Look, Spot, fits_with, wanted_by, ahead, spots, waits_for, holds_up, closes_ring}
use Rattle.lock_queues.specs.Sides.{is_told}
use Rattle.lock_queues.proofs.Ahead.{ahead-any}
use Rattle.lock_queues.specs.Reasons.{spot_of}
use Rattle.lock_queues.specs.Rings.{first_below, leads_on, reaches, stops, longest, ring_told, hop, hops, hops_of}
use Rattle.lock_queues.specs.Search.{marks}
use Rattle.lock_queues.specs.Sound.{Distinct}
use Rattle.lock_queues.specs.Walks.{next_of, IsRow, AreRows, IsEnough, walk}
use Rattle.lock_queues.proofs.Edges.{spot-found, own-edges}
use Rattle.lock_queues.proofs.Finding.{first-is, reaches-next, stops-next, way-reaches}
use Rattle.lock_queues.proofs.Searching.{marks-blank}
use Rattle.lock_queues.proofs.Spots.{edge-waits}

-- ---- the least number that passes

pub first-same : (f g : ℕ → Bool) (n : ℕ) → ((j : ℕ) → j < n → f j ≡ g j) → first_below n f ≡ first_below n g
first-same f g zero same = refl
first-same f g (suc n) same =
    λ i. elim (first-same f g n (λ j lt. same j (omega (arith, lt))) i) [ None ↦ cond (same n (omega arith) i) (Some n) None | Some k ↦ Some k ]

first-stays : (f : ℕ → Bool) (m n k : ℕ) → m ≤ n → first_below m f ≡ Some k → first_below n f ≡ Some k
first-stays f m zero k le e = let same : m ≡ 0 = omega (arith, le) in subst (λ x. first_below x f ≡ Some k) same e
first-stays f m (suc n) k le e =
    let cases : (m ≤ n) ⊎ (m ≡ suc n) = grind (arith, le) in
    ⊎_elim (λ l. ap (λ o. let x : Option ℕ = elim o [ None ↦ cond (f n) (Some n) None | Some k ↦ Some k ] in x) (first-stays f m n k l e))
    (λ q. subst (λ x. first_below x f ≡ Some k) q e) cases

-- none before it passes, and it does
pub first-here : (f : ℕ → Bool) (k n : ℕ) → k < n → first_below k f ≡ None → f k ≡ true → first_below n f ≡ Some k
first-here f k n lt none passes = first-stays f (suc k) n k lt
    (ap (λ o. let x : Option ℕ = elim o [ None ↦ cond (f k) (Some k) None | Some k ↦ Some k ] in x) none ∙ ap (λ b. cond b (Some k) None) passes)

pub first-past : (f : ℕ → Bool) (k : ℕ) → first_below k f ≡ None → f k ≡ false → first_below (suc k) f ≡ None
first-past f k none fails =
    ap (λ o. let x : Option ℕ = elim o [ None ↦ cond (f k) (Some k) None | Some k ↦ Some k ] in x) none ∙ ap (λ b. cond b (Some k) None) fails

-- ---- edges

pub no-edge : (look : Look) (waits : List Wait) (a b : ℕ) → spot_of a (spots waits) ≡ None → waits_for look waits a b ≡ false
no-edge look waits a b none = false_from_ne_true _ (λ e.
    let r = spot-found a [] waits (edge-waits look waits a b e) in
    let x : None ≡ Some r.0 = sym none ∙ r.1 in cc)

pub own-edge : (look : Look) (waits : List Wait) (a b : ℕ) (s : Spot) → Distinct waits → spot_of a (spots waits) ≡ Some s
    → holds_up look s b ≡ waits_for look waits a b
own-edge look waits a b s d e = sym (own-edges look a b [] waits s d e)

-- whom a wait waits for, where the wanted mode fits beside what that session holds
pub up-is : (look : Look) (s : Spot) (b : ℕ) → s.wait.session ≢ b → fits_with (wanted_by look s.wait) (look b s.wait.resource) ≡ true
    → (list_any (is_told look b s.wait true) s.before || list_any (is_told look b s.wait false) s.after) ≡ holds_up look s b
up-is look s b other fits =
    sym (ahead-any look b s)
    ∙ sym (λ i. not (false_from_ne_true (s.wait.session == b) (λ h. other (eqb-true s.wait.session b h)) i)
    && (not (fits i) || list_any (λ (w : Wait). w.session == b) (ahead look s)))

-- ---- rows

pub one-marked : (n i a : ℕ) → i < n → marks (set (replicate n false) i true) a ≡ (a == i)
one-marked n i a lt = at (cases_eq a i)
  where
    at : (a ≡ i) ⊎ (a ≢ i) → marks (set (replicate n false) i true) a ≡ (a == i)
    at (inl e) =
        ap (λ x. get_or (set (replicate n false) i true) x false) e
        ∙ get_or-set_same (replicate n false) i true false (omega (arith, lt, length-replicate n false)) ∙ sym (eq-eqb a i e)
    at (inr ne) = get_or-set_other (replicate n false) i a true false ne ∙ marks-blank n a ∙ sym (false_from_ne_true (a == i) (λ h. ne (eqb-true a i h)))

module _ (look : Look) (waits : List Wait) (count i : ℕ) where
  abbrev edge : ℕ → ℕ → Bool
  edge = waits_for look waits

  -- the row behind one
  pub next-row : (n : ℕ) (row new : ℕ → Bool) → IsRow look waits count i n row
      → ((a : ℕ) → a < count → new a ≡ is_some (next_of look waits count row a)) → IsRow look waits count i (suc n) new
  next-row n row new is made a lt =
      made a lt
      ∙ ap is_some (first-same (leads_on edge row a) (leads_on edge (λ c. reaches edge count n c i) a) count
      (λ c l k. elim (edge a c) [ true ↦ is c l k | false ↦ false ]))

  pub rows-more : (rows : List (List Bool)) (row : List Bool) → AreRows look waits count i rows → IsRow look waits count i (length rows) (marks row)
      → AreRows look waits count i (rows ++ row ∷ [])
  rows-more rows row are is n lt = at (grind (arith, lt, length-append rows (row ∷ [])))
    where
      at : (n < length rows) ⊎ (n ≡ length rows) → IsRow look waits count i n (marks (get_or (rows ++ row ∷ []) n []))
      at (inl l) = subst (λ r. IsRow look waits count i n (marks r)) (sym (get_or_append_left rows (row ∷ []) [] n l)) (are n l)
      at (inr e) = subst (λ r. IsRow look waits count i n (marks r))
          (sym (ap (λ m. get_or (rows ++ row ∷ []) m []) e ∙ get_or-append_seam rows row [] []))
          (subst (λ m. IsRow look waits count i m (marks row)) (sym e) is)

  -- the ring is not found yet
  pub record Rising (rows : List (List Bool)) (row behind : List Bool) : Type 0 where
    pub are : AreRows look waits count i rows
    pub is : IsRow look waits count i (length rows) (marks row)
    pub next : IsRow look waits count i (suc (length rows)) (marks behind)
    pub none : (m : ℕ) → m < length rows → reaches edge count (suc m) i i ≡ false

  pub rising-more : (rows : List (List Bool)) (row behind new : List Bool) → i < count → Rising rows row behind → marks behind i ≡ false
      → ((a : ℕ) → a < count → marks new a ≡ is_some (next_of look waits count (marks behind) a))
      → Rising (rows ++ row ∷ []) behind new
  rising-more rows row behind new below r fails made =
      let long : suc (length rows) ≡ length (rows ++ row ∷ []) = omega (arith, length-append rows (row ∷ [])) in
      record {
        are = rows-more rows row r.are r.is;
        is = subst (λ m. IsRow look waits count i m (marks behind)) long r.next;
        next = subst (λ m. IsRow look waits count i (suc m) (marks new)) long (next-row (suc (length rows)) (marks behind) (marks new) r.next made);
        none = λ m lt.
            let cases : (m < length rows) ⊎ (m ≡ length rows) = grind (arith, lt, long) in
            ⊎_elim (λ l. r.none m l) (λ e. ap (λ k. reaches edge count (suc k) i i) e ∙ sym (r.next i below) ∙ fails) cases;
      }

  -- it is found in time
  pub rising-ends : (rows : List (List Bool)) (row behind : List Bool) → i < count → closes_ring count look waits i ≡ true → Rising rows row behind
      → length rows < longest count
  rising-ends rows row behind below closes r =
      let w = way-reaches edge count count i i (omega arith) below closes in
      let less : w.0 < longest count = w.1 in
      let cases : (w.0 < length rows) ⊎ (length rows ≤ w.0) = grind arith in
      ⊎_elim (λ l. absurd (both_ways _ (r.none w.0 l) w.2)) (λ le. omega (arith, less, le)) cases

  pub rising-enough : (rows : List (List Bool)) (row behind : List Bool) → i < count → closes_ring count look waits i ≡ true → Rising rows row behind
      → marks behind i ≡ true → IsEnough look waits count i (rows ++ row ∷ [])
  rising-enough rows row behind below closes r passes =
      let lt = rising-ends rows row behind below closes r in
      let here : reaches edge count (suc (length rows)) i i ≡ true = sym (r.next i below) ∙ passes in
      record {
        last = length rows;
        many = omega (arith, length-append rows (row ∷ []));
        shortest = first-here (λ n. reaches edge count (suc n) i i) (length rows) (longest count) lt (first-all (length rows) r.none) here;
        are = rows-more rows row r.are r.is;
      }
    where
      first-all : (n : ℕ) → ((m : ℕ) → m < n → reaches edge count (suc m) i i ≡ false) → first_below n (λ n. reaches edge count (suc n) i i) ≡ None
      first-all zero none = refl
      first-all (suc n) none = first-past (λ n. reaches edge count (suc n) i i) n (first-all n (λ m lt. none m (omega (arith, lt)))) (none n (omega arith))

  -- ---- hops

  abbrev told : List ℕ → List Hop
  told [] = []
  told (a ∷ bs) = hops look waits a bs i

  pub walk-is : (n a : ℕ) → reaches edge count (suc n) a i ≡ true → told (stops edge count (suc n) a i) ≡ walk look waits count i (suc n) a
  walk-is zero a h =
      let r = reaches-next edge count 0 a i h in
      let x = r.1 in
      let same : r.0 ≡ i = eqb-true r.0 i x.rest in
      ap told (stops-next edge count 0 a i r.0 x) ∙ ap (hop look waits a) (sym same) ∙ sym (append-nil (hop look waits a r.0))
      ∙ sym (ap (λ o. let xs : List Hop = elim o [ None ↦ [] | Some c ↦ hop look waits a c ++ walk look waits count i 0 c ] in xs) x.first)
  walk-is (suc n) a h =
      let r = reaches-next edge count (suc n) a i h in
      let x = r.1 in
      let y = reaches-next edge count n r.0 i x.rest in
      ap told (stops-next edge count (suc n) a i r.0 x)
      ∙ ap (λ xs. hops look waits a xs i) (stops-next edge count n r.0 i y.0 y.1)
      ∙ ap (λ hs. hop look waits a r.0 ++ hs) (sym (ap told (stops-next edge count n r.0 i y.0 y.1)) ∙ walk-is n r.0 x.rest)
      ∙ sym (ap (λ o. let xs : List Hop = elim o [ None ↦ [] | Some c ↦ hop look waits a c ++ walk look waits count i (suc n) c ] in xs) x.first)

  pub walk-ring : (last : ℕ) → first_below (longest count) (λ n. reaches edge count (suc n) i i) ≡ Some last
      → walk look waits count i (suc last) i ≡ ring_told count look waits i
  walk-ring last e =
      let f = first-is (longest count) (λ n. reaches edge count (suc n) i i) last e in
      let r = reaches-next edge count last i i f.passes in
      sym (ap (λ o. let hs : List Hop = hops_of look waits (elim o [ None ↦ [] | Some n ↦ stops edge count (suc n) i i ]) in hs) e
      ∙ ap (hops_of look waits) (stops-next edge count last i i r.0 r.1) ∙ sym (ap told (stops-next edge count last i i r.0 r.1))
      ∙ walk-is last i f.passes)

  -- one hop off
  pub walk-next : (n a : ℕ) (row : ℕ → Bool) (o : Option ℕ) → IsRow look waits count i n row → o ≡ next_of look waits count row a
      → first_below count (leads_on edge (λ c. reaches edge count n c i) a) ≡ o
  walk-next n a row o is e =
      sym (e ∙ first-same (leads_on edge row a) (leads_on edge (λ c. reaches edge count n c i) a) count
      (λ c l k. elim (edge a c) [ true ↦ is c l k | false ↦ false ]))

  pub rows-fewer : (rows before : List (List Bool)) (row : List Bool) → rows ≡ before ++ row ∷ [] → AreRows look waits count i rows
      → AreRows look waits count i before × IsRow look waits count i (length before) (marks row)
  rows-fewer rows before row e are =
      let all : AreRows look waits count i (before ++ row ∷ []) = subst (AreRows look waits count i) e are in
      let long : length (before ++ row ∷ []) ≡ suc (length before) = omega (arith, length-append before (row ∷ [])) in (
        (λ n lt. subst (λ r. IsRow look waits count i n (marks r)) (get_or_append_left before (row ∷ []) [] n lt) (all n (omega (arith, lt, long)))),
        subst (λ r. IsRow look waits count i (length before) (marks r)) (get_or-append_seam before row [] []) (all (length before) (omega (arith, long))),
      )

  walk-off : (rows before : List (List Bool)) (row : List Bool) (a : ℕ) (o : Option ℕ) → rows ≡ before ++ row ∷ [] → AreRows look waits count i rows
      → o ≡ next_of look waits count (marks row) a
      → walk look waits count i (length rows) a
      ≡ (let hs : List Hop = elim o [ None ↦ [] | Some c ↦ hop look waits a c ++ walk look waits count i (length before) c ] in hs)
  walk-off rows before row a o e are is =
      let long : length rows ≡ suc (length before) =
      omega (arith, ap (λ (rs : List (List Bool)). length rs) e, length-append before (row ∷ [])) in
      ap (λ n. walk look waits count i n a) long
      ∙ ap (λ x. let hs : List Hop = elim x [ None ↦ [] | Some c ↦ hop look waits a c ++ walk look waits count i (length before) c ] in hs)
      (walk-next (length before) a (marks row) o (rows-fewer rows before row e are).1 is)

  pub walk-none : (rows before : List (List Bool)) (row : List Bool) (a : ℕ) → rows ≡ before ++ row ∷ [] → AreRows look waits count i rows
      → None ≡ next_of look waits count (marks row) a → walk look waits count i (length rows) a ≡ []
  walk-none rows before row a e are is = walk-off rows before row a None e are is

  pub walk-some : (rows before : List (List Bool)) (row : List Bool) (a c : ℕ) → rows ≡ before ++ row ∷ [] → AreRows look waits count i rows
      → Some c ≡ next_of look waits count (marks row) a
      → walk look waits count i (length rows) a ≡ hop look waits a c ++ walk look waits count i (length before) c
  walk-some rows before row a c e are is = walk-off rows before row a (Some c) e are is
