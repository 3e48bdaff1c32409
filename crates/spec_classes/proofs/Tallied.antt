-- What is counted of each number, state by state.
use Rattle.std.proofs.Common.{◌≡◌, refl, sym, ap, ◌∙◌, subst, ℕ, zero, suc, ◌+◌, ◌<◌, ◌≤◌, ◌==◌, ◌||◌, ◌⊎◌, inl, inr, ⊎_elim, Bool, true, false, cond, nat_lt, Some, List, [], ◌∷◌, ◌++◌, length, set, get_or, slice_get, sum_by, take, drop, ◌^◌, add-one, drop-cons, length-append, arith, eqb-true, eq-eqb}
use Rattle.std.proofs.lemmas.List.{take-append-drop}
use Rattle.std.proofs.lemmas.List.Sums.{sum_by-cons, sum_by_push}
use Rattle.std.proofs.lemmas.Bool.{cases_eq, cases_lt, ltb-true, ltb-false}
use Rattle.path_counts.specs.Paths.{Has}
use Rattle.schedule_counts.specs.declared.counting.FinalState.{FinalState}
use Rattle.schedule_counts.specs.Classes.{count_of, total_count}
use Rattle.spec_classes.specs.declared.tallies.Tally.{Tally}
use Rattle.spec_classes.specs.Tallies.{IsTallyOf, AreTallies, AreCountable, joined}

-- ---- lists

pub has-front : {T : Type 0} (x : T) (xs ys : List T) → Has x xs → Has x (xs ++ ys)
has-front x [] ys h = absurd h
has-front x (y ∷ xs) ys (inl e) = inl e
has-front x (y ∷ xs) ys (inr h) = inr (has-front x xs ys h)

pub has-last : {T : Type 0} (x : T) (xs : List T) → Has x (xs ++ x ∷ [])
has-last x [] = inl refl
has-last x (y ∷ xs) = inr (has-last x xs)

pub has-either : {T : Type 0} (x y : T) (xs : List T) → Has x (xs ++ y ∷ []) → Has x xs ⊎ (x ≡ y)
has-either x y [] (inl e) = inr e
has-either x y [] (inr h) = absurd h
has-either x y (z ∷ xs) (inl e) = inl (inl e)
has-either x y (z ∷ xs) (inr h) = ⊎_elim (λ k. inl (inr k)) (λ e. inr e) (has-either x y xs h)

-- ---- counts

pub count-same : (n : ℕ) (fs : List FinalState) (f : FinalState) → f.shows ≡ n → count_of n (fs ++ f ∷ []) ≡ count_of n fs + f.count
count-same n [] f e = ap (λ b. cond b (f.count + 0) 0) (eq-eqb f.shows n e) ∙ (omega arith)
count-same n (g ∷ fs) f e = at (g.shows == n) (count-same n fs f e)
  where
    at : (b : Bool) → count_of n (fs ++ f ∷ []) ≡ count_of n fs + f.count
        → cond b (g.count + count_of n (fs ++ f ∷ [])) (count_of n (fs ++ f ∷ [])) ≡ cond b (g.count + count_of n fs) (count_of n fs) + f.count
    at true rec = omega arith
    at false rec = rec

not-eqb : (a b : ℕ) → (a ≡ b → ⊥) → (a == b) ≡ false
not-eqb a b f = at (a == b) refl
  where
    at : (c : Bool) → (a == b) ≡ c → (a == b) ≡ false
    at true e = absurd (f (eqb-true a b e))
    at false e = e

pub count-other : (n : ℕ) (fs : List FinalState) (f : FinalState) → (f.shows ≡ n → ⊥) → count_of n (fs ++ f ∷ []) ≡ count_of n fs
count-other n [] f ne = ap (λ b. cond b (f.count + 0) 0) (not-eqb f.shows n ne)
count-other n (g ∷ fs) f ne = ap (λ k. cond (g.shows == n) (g.count + k) k) (count-other n fs f ne)

pub total-with : (fs : List FinalState) (f : FinalState) → total_count (fs ++ f ∷ []) ≡ total_count fs + f.count
total-with [] f = omega arith
total-with (g ∷ fs) f = let rec = total-with fs f in omega arith

pub total-front : (fs gs : List FinalState) → total_count (fs ++ gs) ≡ total_count fs + total_count gs
total-front [] gs = omega arith
total-front (f ∷ fs) gs = let rec = total-front fs gs in omega arith

pub count-le-total : (n : ℕ) (fs : List FinalState) → count_of n fs ≤ total_count fs
count-le-total n [] = omega arith
count-le-total n (g ∷ fs) = at (g.shows == n) (count-le-total n fs)
  where
    at : (b : Bool) → count_of n fs ≤ total_count fs → cond b (g.count + count_of n fs) (count_of n fs) ≤ g.count + total_count fs
    at true le = omega arith
    at false le = omega arith

pub count-some : (n : ℕ) (fs : List FinalState) (g : FinalState) → Has g fs → g.shows ≡ n → 0 < g.count → 0 < count_of n fs
count-some n [] g has e lt = absurd has
count-some n (f ∷ fs) g (inl same) e lt =
    let shows : f.shows ≡ n = sym (ap (λ (x : FinalState). x.shows) same) ∙ e in
    let count : g.count ≡ f.count = ap (λ (x : FinalState). x.count) same in
    let is : count_of n (f ∷ fs) ≡ f.count + count_of n fs = ap (λ b. cond b (f.count + count_of n fs) (count_of n fs)) (eq-eqb f.shows n shows) in
    omega arith
count-some n (f ∷ fs) g (inr has) e lt = at (f.shows == n) (count-some n fs g has e lt)
  where
    at : (b : Bool) → 0 < count_of n fs → 0 < cond b (f.count + count_of n fs) (count_of n fs)
    at true rec = omega arith
    at false rec = rec

-- ---- a tally with one state more

joined-first : (t : Tally) (f : FinalState)
    → (((joined t f).first ≡ f.first) × ((t.count ≡ 0) ⊎ (f.first < t.first))) ⊎ (((joined t f).first ≡ t.first) × (0 < t.count) × (t.first ≤ f.first))
joined-first t f = at (t.count == 0) refl (nat_lt f.first t.first) refl
  where
    some : (t.count == 0) ≡ false → 0 < t.count
    some e = elim (cases_lt 0 t.count) [ inl lt ↦ lt | inr le ↦ absurd (let bad = sym e ∙ eq-eqb t.count 0 (omega arith) in cc) ]

    at : (a : Bool) → (t.count == 0) ≡ a → (b : Bool) → nat_lt f.first t.first ≡ b
        → ((cond (a || b) f.first t.first ≡ f.first) × ((t.count ≡ 0) ⊎ (f.first < t.first))) ⊎ ((cond (a || b) f.first t.first ≡ t.first) × (0 < t.count) × (t.first ≤ f.first))
    at true e b g = inl (refl, inl (eqb-true t.count 0 e))
    at false e true g = inl (refl, inr (ltb-true f.first t.first g))
    at false e false g = inr (refl, some e, ltb-false f.first t.first g)

module _ (n : ℕ) (fs : List FinalState) (t : Tally) (f : FinalState) (h : IsTallyOf n fs t) where
  tally-same : f.shows ≡ n → ((g : FinalState) → Has g fs → 0 < g.count) → IsTallyOf n (fs ++ f ∷ []) (joined t f)
  tally-same e some = record {
    number = h.number;
    count = ap (λ k. k + f.count) h.count ∙ sym (count-same n fs f e);
    below = λ g has same. ⊎_elim (λ m. old g m same) (λ is. new g is) (has-either g f fs has);
    met = λ lt. ⊎_elim
        (λ x. (f, has-last f fs, e, x.0))
        (λ x. (let m = h.met x.1 in (m.0, has-front m.0 fs (f ∷ []) m.1, m.2, x.0 ∙ m.3)))
        (joined-first t f);
  }
    where
      new : (g : FinalState) → g ≡ f → (joined t f).first ≤ g.first
      new g is = (let own = ap (λ (x : FinalState). x.first) is in ⊎_elim (λ x. (let a = x.0 in omega arith)) (λ x. (let a = x.0 in let b = x.2 in omega arith)) (joined-first t f))

      old : (g : FinalState) → Has g fs → g.shows ≡ n → (joined t f).first ≤ g.first
      old g m same =
          let le = h.below g m same in
          let count = h.count in
          let pos = count-some n fs g m same (some g m) in
          ⊎_elim
          (λ x. (let a = x.0 in ⊎_elim (λ z. absurd (omega arith)) (λ lt. omega arith) x.1))
          (λ x. (let a = x.0 in omega arith))
          (joined-first t f)

  tally-other : (f.shows ≡ n → ⊥) → IsTallyOf n (fs ++ f ∷ []) t
  tally-other ne = record {
    number = h.number;
    count = h.count ∙ sym (count-other n fs f ne);
    below = λ g has same. ⊎_elim (λ m. h.below g m same) (λ is. absurd (ne (sym (ap (λ (x : FinalState). x.shows) is) ∙ same))) (has-either g f fs has);
    met = λ lt. (let m = h.met lt in (m.0, has-front m.0 fs (f ∷ []) m.1, m.2, m.3));
  }

-- ---- all tallies with one state more

same-tally : (a b : Tally) → Some a ≡ Some b → a ≡ b
same-tally a b e = cc

pub get-found : (ts : List Tally) (i : ℕ) (t : Tally) → i < length ts → t ≡ get_or ts i t → slice_get ts i ≡ Some t
get-found [] i t lt e = absurd (omega arith)
get-found (u ∷ ts) zero t lt e = ap Some (sym e)
get-found (u ∷ ts) (suc i) t lt e = get-found ts i t (omega arith) e

set-there : (ts : List Tally) (i : ℕ) (x : Tally) → i < length ts → slice_get (set ts i x) i ≡ Some x
set-there [] i x lt = absurd (omega arith)
set-there (t ∷ ts) zero x lt = refl
set-there (t ∷ ts) (suc i) x lt = set-there ts i x (omega arith)

set-elsewhere : (ts : List Tally) (i n : ℕ) (x : Tally) → (n ≡ i → ⊥) → slice_get (set ts i x) n ≡ slice_get ts n
set-elsewhere [] i n x ne = refl
set-elsewhere (t ∷ ts) zero zero x ne = absurd (ne refl)
set-elsewhere (t ∷ ts) zero (suc n) x ne = refl
set-elsewhere (t ∷ ts) (suc i) zero x ne = refl
set-elsewhere (t ∷ ts) (suc i) (suc n) x ne = set-elsewhere ts i n x (λ e. ne (ap suc e))

set-long : (ts : List Tally) (i : ℕ) (x : Tally) → length (set ts i x) ≡ length ts
set-long [] i x = refl
set-long (t ∷ ts) zero x = refl
set-long (t ∷ ts) (suc i) x = ap suc (set-long ts i x)

set-sum : (ts : List Tally) (i : ℕ) (t x : Tally) → slice_get ts i ≡ Some t → sum_by (λ (u : Tally). u.count) (set ts i x) + t.count ≡ sum_by (λ (u : Tally). u.count) ts + x.count
set-sum [] i t x e = absurd (cc)
set-sum (u ∷ ts) zero t x e =
    let same : u ≡ t = same-tally u t e in
    let count = ap (λ (y : Tally). y.count) same in
    let a = sum_by-cons (λ (y : Tally). y.count) u ts in
    let b = sum_by-cons (λ (y : Tally). y.count) x ts in
    omega arith
set-sum (u ∷ ts) (suc i) t x e =
    let rec = set-sum ts i t x e in
    let a = sum_by-cons (λ (y : Tally). y.count) u ts in
    let b = sum_by-cons (λ (y : Tally). y.count) u (set ts i x) in
    omega arith

found-inside : (ts : List Tally) (i : ℕ) (t : Tally) → slice_get ts i ≡ Some t → i < length ts
found-inside [] i t e = absurd (cc)
found-inside (u ∷ ts) zero t e = omega arith
found-inside (u ∷ ts) (suc i) t e = (let rec = found-inside ts i t e in omega arith)

pub tallies-next : (numbers : ℕ) (fs : List FinalState) (ts : List Tally) (f : FinalState) (t : Tally) → slice_get ts f.shows ≡ Some t → ((g : FinalState) → Has g fs → 0 < g.count)
    → AreTallies numbers fs ts → AreTallies numbers (fs ++ f ∷ []) (set ts f.shows (joined t f))
tallies-next numbers fs ts f t at some h = record {
  long = set-long ts f.shows (joined t f) ∙ h.long;
  each = λ n u is. ⊎_elim
      (λ e. (let same : u ≡ joined t f = same-tally u (joined t f) (sym is ∙ ap (λ k. slice_get (set ts f.shows (joined t f)) k) e ∙ set-there ts f.shows (joined t f) (found-inside ts f.shows t at)) in
      let own : IsTallyOf n fs t = h.each n t (ap (λ k. slice_get ts k) e ∙ at) in
      subst (λ v. IsTallyOf n (fs ++ f ∷ []) v) (sym same) (tally-same n fs t f own (sym e) some)))
      (λ ne. tally-other n fs u f (h.each n u (sym (set-elsewhere ts f.shows n (joined t f) ne) ∙ is)) (λ e. ne (sym e)))
      (cases_eq n f.shows);
  sum = (let s = set-sum ts f.shows t (joined t f) at in let sum = h.sum in let total = total-with fs f in omega arith);
}

-- what is joined fits
pub joined-fits : (numbers : ℕ) (fs gs : List FinalState) (ts : List Tally) (f : FinalState) (t : Tally) → slice_get ts f.shows ≡ Some t → AreTallies numbers fs ts
    → t.count + f.count ≤ total_count (fs ++ f ∷ gs)
joined-fits numbers fs gs ts f t at h =
    let own = h.each f.shows t at in
    let count = own.count in
    let le = count-le-total f.shows fs in
    let all = total-front fs (f ∷ gs) in
    omega arith

-- ---- tallies of nothing

abbrev pub empty_tally : ℕ → Tally
empty_tally n = record { number = n; count = 0; first = 0 }

empty-own : (n : ℕ) → IsTallyOf n [] (empty_tally n)
empty-own n = record { number = refl; count = refl; below = λ f has e. absurd has; met = λ lt. absurd (omega arith) }

get-last : (ts : List Tally) (t u : Tally) (k : ℕ) → slice_get (ts ++ t ∷ []) k ≡ Some u → (slice_get ts k ≡ Some u) ⊎ ((k ≡ length ts) × (u ≡ t))
get-last [] t u zero e = inr (refl, same-tally u t (sym e))
get-last [] t u (suc k) e = absurd (cc)
get-last (x ∷ ts) t u zero e = inl e
get-last (x ∷ ts) t u (suc k) e = ⊎_elim (λ h. inl h) (λ h. inr (ap suc h.0, h.1)) (get-last ts t u k e)

sum-last : (ts : List Tally) (n : ℕ) → sum_by (λ (u : Tally). u.count) (ts ++ empty_tally n ∷ []) ≡ sum_by (λ (u : Tally). u.count) ts
sum-last ts n = (let e = sum_by_push (λ (u : Tally). u.count) ts (empty_tally n) in omega arith)

pub none-tallied : AreTallies 0 [] []
none-tallied = record { long = refl; each = λ n t e. absurd (cc); sum = refl }

pub empty-next : (n : ℕ) (ts : List Tally) → AreTallies n [] ts → AreTallies (n + 1) [] (ts ++ empty_tally n ∷ [])
empty-next n ts h = record {
  long = length-append ts (empty_tally n ∷ []) ∙ ap (λ k. k + 1) h.long;
  each = λ k t e. ⊎_elim (λ old. h.each k t old)
      (λ new. (let at : k ≡ n = new.0 ∙ h.long in subst (λ v. IsTallyOf k [] v) (sym (new.1 ∙ ap empty_tally (sym at))) (empty-own k)))
      (get-last ts (empty_tally n) t k e);
  sum = sum-last ts n ∙ h.sum;
}

-- ---- by the places of states

take-suc : {T : Type 0} (ys : List T) (k : ℕ) (d : T) → k < length ys → take (suc k) ys ≡ take k ys ++ get_or ys k d ∷ []
take-suc [] k d l = absurd (omega arith)
take-suc (y ∷ ys) zero d l = refl
take-suc (y ∷ ys) (suc k) d l = ap (λ r. y ∷ r) (take-suc ys k d (omega arith))

pub take-next : {T : Type 0} (xs : List T) (i : ℕ) (d : T) → i < length xs → take (i + 1) xs ≡ take i xs ++ get_or xs i d ∷ []
take-next xs i d lt = ap (λ k. take k xs) (add-one i) ∙ take-suc xs i d lt

has-taken : {T : Type 0} (xs : List T) (i : ℕ) (x : T) → Has x (take i xs) → Has x xs
has-taken [] zero x h = h
has-taken [] (suc i) x h = h
has-taken (y ∷ xs) zero x h = absurd h
has-taken (y ∷ xs) (suc i) x (inl e) = inl e
has-taken (y ∷ xs) (suc i) x (inr h) = inr (has-taken xs i x h)

pub has-at : {T : Type 0} (xs : List T) (i : ℕ) (d : T) → i < length xs → Has (get_or xs i d) xs
has-at [] i d lt = absurd (omega arith)
has-at (y ∷ xs) zero d lt = inl refl
has-at (y ∷ xs) (suc i) d lt = inr (has-at xs i d (omega arith))

module _ (numbers : ℕ) (states : List FinalState) (ts : List Tally) (i : ℕ) (d : FinalState) (t : Tally) (lt : i < length states) (h : AreTallies numbers (take i states) ts)
    (at : slice_get ts (get_or states i d).shows ≡ Some t) where
  pub state-next : AreCountable numbers states → AreTallies numbers (take (i + 1) states) (set ts (get_or states i d).shows (joined t (get_or states i d)))
  state-next each =
      subst (λ fs. AreTallies numbers fs (set ts (get_or states i d).shows (joined t (get_or states i d)))) (sym (take-next states i d lt))
      (tallies-next numbers (take i states) ts (get_or states i d) t at (λ g has. each.some g (has-taken states i g has)) h)

  pub state-fits : total_count states < 2 ^ 63 → t.count + (get_or states i d).count < 2 ^ 63
  state-fits few =
      let fits = joined-fits numbers (take i states) (drop (suc i) states) ts (get_or states i d) t at h in
      let whole : states ≡ take i states ++ get_or states i d ∷ drop (suc i) states = sym (take-append-drop i states) ∙ ap (λ r. take i states ++ r) (drop-cons states i d lt) in
      let same = ap total_count whole in
      omega arith
