-- Classes by tallies are the classes of all orders.
use Rattle.std.proofs.Common.{◌≡◌, refl, sym, ap, ◌∙◌, subst, ℕ, zero, suc, ◌+◌, ◌<◌, ◌≤◌, ◌==◌, ◌⊎◌, inl, inr, Bool, true, false, cond, nat_lt, Some, List, [], ◌∷◌, ◌++◌, length, map, get_or, take, slice_get, sum_by, All, arith, eqb-true, eq-eqb}
use Rattle.std.specs.List.{filter}
use Rattle.std.specs.List.Sorted.{IsNonDecreasingBy}
use Rattle.std.proofs.lemmas.Bool.{cases_eq, cases_lt, ltb-true, ltb-false}
use Rattle.std.proofs.lemmas.List.Elements.{All-nil, All-cons, All-head, All-tail}
use Rattle.std.proofs.lemmas.List.Sums.{sum_by-cons}
use Rattle.std.proofs.lemmas.List.Sorted.{All-permutation, IsPermutation-sym, sum_by-IsPermutation}
use Rattle.lock_queues.specs.Reasons.{Among}
use Rattle.binding_model.specs.declared.tables.Table.{Table}
use Rattle.bound_specs.specs.Spec.{Spec}
use Rattle.spec_schedules.specs.declared.kind.Kind.{Kind}
use Rattle.spec_schedules.specs.Ranked.{IsOrderAt}
use Rattle.spec_schedules.specs.Laws.{OrdersAreAlone}
use Rattle.order_classes.specs.declared.shows.Shows.{Shows}
use Rattle.order_classes.specs.Shows.{shows_of_line}
use Rattle.order_classes.specs.Numbers.{IsNumberOf, RiseFrom}
use Rattle.different_shows.specs.Different.{AreDifferent}
use Rattle.different_shows.proofs.Places.{among-at, at-among}
use Rattle.schedule_counts.specs.declared.counting.FinalState.{FinalState}
use Rattle.spec_classes.specs.declared.tallies.Tally.{Tally}
use Rattle.spec_classes.specs.declared.classes.OrderClass.{OrderClass}
use Rattle.spec_classes.specs.Classes as classes
use Rattle.spec_classes.specs.Classes.{ShowsAt, IsClassOf, AreClassesOf}
use Rattle.spec_classes.specs.Told.{AreTold}
use Rattle.spec_classes.specs.Tallies.{IsTallyOf, AreTallies, IsToldBy, AreToldBy, is_counted, AreInTurn, IsFound, AreTellable, AreClassesBy}
use Rattle.spec_classes.proofs.Tallied.{count-some, take-next}

-- ---- lists

pub get-inside : {T : Type 0} (xs : List T) (n : ℕ) (x : T) → slice_get xs n ≡ Some x → n < length xs
get-inside [] n x e = absurd (cc)
get-inside (y ∷ xs) zero x e = omega arith
get-inside (y ∷ xs) (suc n) x e = (let rec = get-inside xs n x e in omega arith)

pub get-there : {T : Type 0} (xs : List T) (n : ℕ) → n < length xs → (x : T) × (slice_get xs n ≡ Some x)
get-there [] n lt = absurd (omega arith)
get-there (y ∷ xs) zero lt = (y, refl)
get-there (y ∷ xs) (suc n) lt = get-there xs n (omega arith)

pub same-some : {T : Type 0} (x y : T) → Some x ≡ Some y → x ≡ y
same-some x y e = cc

all-at : (P : Tally → Type 0) (ts : List Tally) → All P ts → (t : Tally) → Among t ts → P t
all-at P [] h t has = absurd has
all-at P (u ∷ ts) h t (inl e) = subst P (sym e) (All-head P u ts h)
all-at P (u ∷ ts) h t (inr has) = all-at P ts (All-tail P u ts h) t has

all-in : (P : Tally → Type 0) (ts : List Tally) → ((t : Tally) → Among t ts → P t) → All P ts
all-in P [] h = All-nil P
all-in P (u ∷ ts) h = All-cons P u ts (h u (inl refl)) (all-in P ts (λ t has. h t (inr has)))

-- ---- tallies that count something

counted-in : (ts : List Tally) (t : Tally) → Among t (filter is_counted ts) → Among t ts × (0 < t.count)
counted-in [] t has = absurd has
counted-in (u ∷ ts) t has = at (nat_lt 0 u.count) refl has (λ m. counted-in ts t m)
  where
    at : (b : Bool) → nat_lt 0 u.count ≡ b → Among t (cond b (u ∷ filter is_counted ts) (filter is_counted ts)) → (Among t (filter is_counted ts) → Among t ts × (0 < t.count)) → Among t (u ∷ ts) × (0 < t.count)
    at true e (inl is) rec = (inl is, (let lt = ltb-true 0 u.count e in let same = ap (λ (x : Tally). x.count) is in omega arith))
    at true e (inr m) rec = (let r = rec m in (inr r.0, r.1))
    at false e m rec = (let r = rec m in (inr r.0, r.1))

in-counted : (ts : List Tally) (t : Tally) → Among t ts → 0 < t.count → Among t (filter is_counted ts)
in-counted [] t has lt = absurd has
in-counted (u ∷ ts) t has lt = at (nat_lt 0 u.count) refl has (λ m. in-counted ts t m lt)
  where
    at : (b : Bool) → nat_lt 0 u.count ≡ b → Among t (u ∷ ts) → (Among t ts → Among t (filter is_counted ts)) → Among t (cond b (u ∷ filter is_counted ts) (filter is_counted ts))
    at true e (inl is) rec = inl is
    at true e (inr m) rec = inr (rec m)
    at false e (inl is) rec = absurd (let le = ltb-false 0 u.count e in let same = ap (λ (x : Tally). x.count) is in omega arith)
    at false e (inr m) rec = rec m

counted-sum : (ts : List Tally) → sum_by (λ (t : Tally). t.count) (filter is_counted ts) ≡ sum_by (λ (t : Tally). t.count) ts
counted-sum [] = refl
counted-sum (u ∷ ts) = at (nat_lt 0 u.count) refl (counted-sum ts)
  where
    at : (b : Bool) → nat_lt 0 u.count ≡ b → sum_by (λ (t : Tally). t.count) (filter is_counted ts) ≡ sum_by (λ (t : Tally). t.count) ts
        → sum_by (λ (t : Tally). t.count) (cond b (u ∷ filter is_counted ts) (filter is_counted ts)) ≡ sum_by (λ (t : Tally). t.count) (u ∷ ts)
    at true e rec =
        let a = sum_by-cons (λ (t : Tally). t.count) u (filter is_counted ts) in
        let b = sum_by-cons (λ (t : Tally). t.count) u ts in
        omega arith
    at false e rec =
        let b = sum_by-cons (λ (t : Tally). t.count) u ts in
        let none = ltb-false 0 u.count e in
        omega arith

-- ---- no number twice

abbrev one_at : ℕ → Tally → ℕ
one_at n t = cond (t.number == n) 1 0

one-same : (n : ℕ) (t : Tally) → t.number ≡ n → one_at n t ≡ 1
one-same n t e = ap (λ b. cond b 1 0) (eq-eqb t.number n e)

one-other : (n : ℕ) (t : Tally) → (t.number ≡ n → ⊥) → one_at n t ≡ 0
one-other n t ne = at (t.number == n) refl
  where
    at : (b : Bool) → (t.number == n) ≡ b → ◌≡◌ {A = ℕ} (cond b 1 0) 0
    at true e = absurd (ne (eqb-true t.number n e))
    at false e = refl

once-from : (ts : List Tally) (off : ℕ) → ((k : ℕ) (t : Tally) → slice_get ts k ≡ Some t → t.number ≡ off + k) → (n : ℕ)
    → (n < off → sum_by (one_at n) ts ≡ 0) × (sum_by (one_at n) ts ≤ 1)
once-from [] off at n = ((λ lt. refl), omega arith)
once-from (t ∷ ts) off at n =
    let first : t.number ≡ off = (let e = at 0 t refl in omega arith) in
    let rec = once-from ts (suc off) (λ k u e. (let f = at (suc k) u e in omega arith)) n in
    let sum = sum_by-cons (one_at n) t ts in
    elim (cases_eq off n) [
      | inl e ↦ (let one = one-same n t (first ∙ e) in let none = rec.0 (omega arith) in ((λ lt. absurd (omega arith)), omega arith))
      | inr ne ↦ (let zero' = one-other n t (λ f. ne (sym first ∙ f)) in let le = rec.1 in ((λ lt. (let none = rec.0 (omega arith) in omega arith)), omega arith))
    ]

fewer : (n : ℕ) (ts : List Tally) → sum_by (one_at n) (filter is_counted ts) ≤ sum_by (one_at n) ts
fewer n [] = omega arith
fewer n (u ∷ ts) = at (nat_lt 0 u.count) (fewer n ts)
  where
    at : (b : Bool) → sum_by (one_at n) (filter is_counted ts) ≤ sum_by (one_at n) ts → sum_by (one_at n) (cond b (u ∷ filter is_counted ts) (filter is_counted ts)) ≤ sum_by (one_at n) (u ∷ ts)
    at true rec =
        let a = sum_by-cons (one_at n) u (filter is_counted ts) in
        let b = sum_by-cons (one_at n) u ts in
        omega arith
    at false rec = (let b = sum_by-cons (one_at n) u ts in omega arith)

has-one : (n : ℕ) (ts : List Tally) (t : Tally) → Among t ts → t.number ≡ n → 1 ≤ sum_by (one_at n) ts
has-one n [] t has e = absurd has
has-one n (u ∷ ts) t (inl is) e =
    let one = one-same n u (sym (ap (λ (x : Tally). x.number) is) ∙ e) in
    let sum = sum_by-cons (one_at n) u ts in
    omega arith
has-one n (u ∷ ts) t (inr has) e =
    let rec = has-one n ts t has e in
    let sum = sum_by-cons (one_at n) u ts in
    omega arith

-- ---- in turn

sorted-tail : (t : Tally) (ts : List Tally) → IsNonDecreasingBy (λ (x : Tally). x.first) (t ∷ ts) → IsNonDecreasingBy (λ (x : Tally). x.first) ts
sorted-tail t ts h i j d le lt = h (suc i) (suc j) d (omega arith) (omega arith)

head-first : (t : Tally) (ts : List Tally) → IsNonDecreasingBy (λ (x : Tally). x.first) (t ∷ ts) → (u : Tally) → Among u ts → t.first ≤ u.first
head-first t ts h u has = all-at (λ x. t.first ≤ x.first) ts (λ k d lt. h 0 (suc k) d (omega arith) (omega arith)) u has

module _ (kind : Kind) (tables : List Table) (run : Spec) (shown : List Shows) (alone : OrdersAreAlone) where
  pub one-shown : (rank : ℕ) (s t : Shows) → ShowsAt kind tables run rank s → ShowsAt kind tables run rank t → s ≡ t
  one-shown rank s t x y =
      let same : x.0 ≡ y.0 = alone kind run rank x.0 y.0 x.1 y.1 in
      same-some s t (sym x.2 ∙ ap (shows_of_line tables run) same ∙ y.2)

  -- ---- tallies that stand for classes

  class-of : (ts : List Tally) (cs : List OrderClass) → AreToldBy kind run shown ts cs → (t : Tally) → Among t ts → (c : OrderClass) × Among c cs × IsToldBy kind run shown t c
  class-of [] cs by t has = absurd has
  class-of (u ∷ ts) [] by t has = absurd by
  class-of (u ∷ ts) (c ∷ cs) by t (inl e) = (c, inl refl, subst (λ x. IsToldBy kind run shown x c) (sym e) by.0)
  class-of (u ∷ ts) (c ∷ cs) by t (inr has) = (let rec = class-of ts cs by.1 t has in (rec.0, inr rec.1, rec.2))

  tally-of : (ts : List Tally) (cs : List OrderClass) → AreToldBy kind run shown ts cs → (c : OrderClass) → Among c cs → (t : Tally) × Among t ts × IsToldBy kind run shown t c
  tally-of [] [] by c has = absurd has
  tally-of [] (d ∷ cs) by c has = absurd by
  tally-of (u ∷ ts) [] by c has = absurd by
  tally-of (u ∷ ts) (d ∷ cs) by c (inl e) = (u, inl refl, subst (λ x. IsToldBy kind run shown u x) (sym e) by.0)
  tally-of (u ∷ ts) (d ∷ cs) by c (inr has) = (let rec = tally-of ts cs by.1 c has in (rec.0, inr rec.1, rec.2))

  total-told : (ts : List Tally) (cs : List OrderClass) → AreToldBy kind run shown ts cs → classes.total_count cs ≡ sum_by (λ (t : Tally). t.count) ts
  total-told [] [] by = refl
  total-told [] (c ∷ cs) by = absurd by
  total-told (t ∷ ts) [] by = absurd by
  total-told (t ∷ ts) (c ∷ cs) by = (let rec = total-told ts cs by.1 in let own = by.0.count in let sum = sum_by-cons (λ (x : Tally). x.count) t ts in omega arith)

  firsts-told : (ts : List Tally) (cs : List OrderClass) → AreToldBy kind run shown ts cs → map (λ (c : OrderClass). c.first) cs ≡ map (λ (t : Tally). t.first) ts
  firsts-told [] [] by = refl
  firsts-told [] (d ∷ cs) by = absurd by
  firsts-told (u ∷ ts) [] by = absurd by
  firsts-told (u ∷ ts) (d ∷ cs) by = (λ i. by.0.first i ∷ firsts-told ts cs by.1 i)

  -- ---- classes

  module _ (states : List FinalState) (cs : List OrderClass) (told : AreTold kind tables run shown states) (by : AreClassesBy kind run shown states cs) (differ : AreDifferent shown) where
    -- what is known of a tally in turn
    record IsKnown (t : Tally) : Type 0 where
      pub place : slice_get by.tallies t.number ≡ Some t
      pub tally : IsTallyOf t.number states t
      pub some : 0 < t.count

    known-place : (t : Tally) → Among t by.tallies → 0 < t.count → IsKnown t
    known-place t has lt =
        let at = among-at by.tallies t has in
        let is = by.tallied.each at.0 t at.1 in
        record { place = ap (λ k. slice_get by.tallies k) is.number ∙ at.1; tally = subst (λ k. IsTallyOf k states t) (sym is.number) is; some = lt }

    known-turn : (t : Tally) → Among t by.turn → IsKnown t
    known-turn t has = all-at IsKnown by.turn
        (All-permutation IsKnown (filter is_counted by.tallies) by.turn by.in_turn.same
        (all-in IsKnown (filter is_counted by.tallies) (λ u m. (let x = counted-in by.tallies u m in known-place u x.0 x.1)))) t has

    turn-of : (t : Tally) → Among t by.tallies → 0 < t.count → Among t by.turn
    turn-of t has lt = all-at (λ u. Among u by.turn) (filter is_counted by.tallies)
        (All-permutation (λ u. Among u by.turn) by.turn (filter is_counted by.tallies) (IsPermutation-sym (filter is_counted by.tallies) by.turn by.in_turn.same)
        (all-in (λ u. Among u by.turn) by.turn (λ u m. m))) t (in-counted by.tallies t has lt)

    -- what the first rank of a tally shows
    record IsShown (t : Tally) : Type 0 where
      pub shows : Shows
      pub at : slice_get shown t.number ≡ Some shows
      pub first : ShowsAt kind tables run t.first shows

    shown-first : (t : Tally) → IsKnown t → IsShown t
    shown-first t k =
        let m = k.tally.met k.some in
        let x = told.met m.0 m.1 in
        record { shows = x.shows; at = ap (λ n. slice_get shown n) (sym m.2) ∙ x.at; first = subst (λ r. ShowsAt kind tables run r x.shows) (sym m.3) x.first }

    once : (n : ℕ) → sum_by (one_at n) by.turn ≤ 1
    once n =
        let first = once-from by.tallies 0 (λ k t e. (let x = by.tallied.each k t e in let number = x.number in omega arith)) n in
        let le = fewer n by.tallies in
        let same = sum_by-IsPermutation (one_at n) (filter is_counted by.tallies) by.turn by.in_turn.same in
        let one = first.1 in
        omega arith

    rising : (low : ℕ) (ts : List Tally) → ((t : Tally) → Among t ts → IsKnown t) → ((n : ℕ) → sum_by (one_at n) ts ≤ 1) → IsNonDecreasingBy (λ (x : Tally). x.first) ts
        → ((u : Tally) → Among u ts → low ≤ u.first) → RiseFrom low (map (λ (t : Tally). t.first) ts)
    rising low [] known few sorted above = tt
    rising low (t ∷ ts) known few sorted above = (
      above t (inl refl),
      rising (suc t.first) ts (λ u has. known u (inr has)) (λ n. (let sum = sum_by-cons (one_at n) t ts in let le = few n in omega arith)) (sorted-tail t ts sorted)
          (λ u has. (let lt = apart u has (cases_lt t.first u.first) in omega arith)),
    )
      where
        apart : (u : Tally) → Among u ts → (t.first < u.first) ⊎ (u.first ≤ t.first) → t.first < u.first
        apart u has (inl lt) = lt
        apart u has (inr le) = absurd (
            let ge = head-first t ts sorted u has in
            let same : t.first ≡ u.first = omega arith in
            let a = shown-first t (known t (inl refl)) in
            let b = shown-first u (known u (inr has)) in
            let shows : a.shows ≡ b.shows = one-shown t.first a.shows b.shows a.first (subst (λ r. ShowsAt kind tables run r b.shows) (sym same) b.first) in
            let number : t.number ≡ u.number = differ t.number u.number b.shows (a.at ∙ ap Some shows) b.at in
            let sum = sum_by-cons (one_at u.number) t ts in
            let one = one-same u.number t number in
            let more = has-one u.number ts u has refl in
            let le1 = few u.number in
            omega arith)

    class-is : (c : OrderClass) → Among c cs → IsClassOf kind tables run c
    class-is c has =
        let x = tally-of by.turn cs by.told c has in
        let t : Tally = x.0 in
        let is = x.2 in
        let k = known-turn t x.1 in
        let f = shown-first t k in
        let shows : f.shows ≡ c.shows = same-some f.shows c.shows (sym f.at ∙ is.shows) in
        let first : ShowsAt kind tables run c.first c.shows = subst (λ r. ShowsAt kind tables run r c.shows) (sym is.first) (subst (λ s. ShowsAt kind tables run t.first s) shows f.first) in
        record {
          count = subst (λ n. IsNumberOf (λ rank. ShowsAt kind tables run rank c.shows) n) (sym (is.count ∙ k.tally.count)) (told.numbers t.number c.shows is.shows);
          first = record {
            is_so = first;
            least = λ q so.
                (let y = told.some q c.shows so in
                let number : y.state.shows ≡ t.number = differ y.state.shows t.number c.shows y.at is.shows in
                let le = k.tally.below y.state y.inside number in
                let own = is.first in
                let below = y.below in
                omega arith);
          };
          line = is.line;
          shows = ap (shows_of_line tables run) (alone kind run c.first c.line.items first.0 is.line first.1) ∙ first.2;
        }

    all-there : (rank : ℕ) (s : Shows) → ShowsAt kind tables run rank s → (c : OrderClass) × Among c cs × (c.shows ≡ s)
    all-there rank s so =
        let y = told.some rank s so in
        let m = told.met y.state y.inside in
        let inside = get-inside shown y.state.shows s y.at in
        let long = by.tallied.long in
        let t = get-there by.tallies y.state.shows (omega arith) in
        let is = by.tallied.each y.state.shows t.0 t.1 in
        let pos = count-some y.state.shows states y.state y.inside refl m.some in
        let count = is.count in
        let some : 0 < t.0.count = omega arith in
        let c = class-of by.turn cs by.told t.0 (turn-of t.0 (at-among by.tallies y.state.shows t.0 t.1) some) in
        (c.0, c.1, same-some c.0.shows s (sym c.2.shows ∙ ap (λ n. slice_get shown n) is.number ∙ y.at))

    pub are-classes : AreClassesOf kind tables run cs
    are-classes = record {
      each = class-is;
      all = all-there;
      alone = λ rank ks ls h k. alone kind run rank ks ls h k;
      rise = subst (RiseFrom 0) (sym (firsts-told by.turn cs by.told)) (rising 0 by.turn known-turn once by.in_turn.sorted (λ u has. omega arith));
      few =
          (let total = total-told by.turn cs by.told in
          let same = sum_by-IsPermutation (λ (t : Tally). t.count) (filter is_counted by.tallies) by.turn by.in_turn.same in
          let counted = counted-sum by.tallies in
          let sum = by.tallied.sum in
          let few = told.few in
          omega arith);
    }

  pub tellable : (states : List FinalState) → AreTold kind tables run shown states → AreTellable kind run (length shown) states
  tellable states told = record {
    countable = record {
      within = λ f has. (let m = told.met f has in get-inside shown f.shows m.shows m.at);
      some = λ f has. (told.met f has).some;
    };
    few = told.few;
    firsts = λ f has. (let m = told.met f has in (m.first.0, m.first.1));
  }

-- the first rank of each tally in turn has an order
pub all-found : (kind : Kind) (run : Spec) (shown : List Shows) (states : List FinalState) (ts turn : List Tally) → AreTellable kind run (length shown) states
    → AreTallies (length shown) states ts → AreInTurn ts turn → All (IsFound kind run shown) turn
all-found kind run shown states ts turn h tallied inturn =
    All-permutation (IsFound kind run shown) (filter is_counted ts) turn inturn.same
    (all-in (IsFound kind run shown) (filter is_counted ts) (λ t m. (let x = counted-in ts t m in found t x.0 x.1)))
  where
    found : (t : Tally) → Among t ts → 0 < t.count → IsFound kind run shown t
    found t has lt =
        let at = among-at ts t has in
        let is = tallied.each at.0 t at.1 in
        let inside = get-inside ts at.0 t at.1 in
        let long = tallied.long in
        let number = is.number in
        let m = is.met lt in
        record {
          number = omega arith;
          first = (let o = h.firsts m.0 m.1 in (o.0, subst (λ r. IsOrderAt kind run r o.0) (sym m.3) o.1));
        }

-- ---- class by class

pub told-next : (kind : Kind) (run : Spec) (shown : List Shows) (ts : List Tally) (cs : List OrderClass) (t : Tally) (c : OrderClass) → AreToldBy kind run shown ts cs → IsToldBy kind run shown t c
    → AreToldBy kind run shown (ts ++ t ∷ []) (cs ++ c ∷ [])
told-next kind run shown [] [] t c by is = (is, tt)
told-next kind run shown [] (d ∷ cs) t c by is = absurd by
told-next kind run shown (u ∷ ts) [] t c by is = absurd by
told-next kind run shown (u ∷ ts) (d ∷ cs) t c by is = (by.0, told-next kind run shown ts cs t c by.1 is)

pub told-taken : (kind : Kind) (run : Spec) (shown : List Shows) (ts : List Tally) (cs : List OrderClass) (i : ℕ) (d : Tally) (c : OrderClass) → i < length ts → AreToldBy kind run shown (take i ts) cs
    → IsToldBy kind run shown (get_or ts i d) c → AreToldBy kind run shown (take (i + 1) ts) (cs ++ c ∷ [])
told-taken kind run shown ts cs i d c lt by is =
    subst (λ l. AreToldBy kind run shown l (cs ++ c ∷ [])) (sym (take-next ts i d lt)) (told-next kind run shown (take i ts) cs (get_or ts i d) c by is)
