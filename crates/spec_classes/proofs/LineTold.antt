-- What the lines of a spec show tells of all its orders.
use Rattle.std.proofs.Common.{◌≡◌, ◌≢◌, ◌↔◌, refl, sym, ap, ◌∙◌, subst, ℕ, zero, suc, ◌+◌, ◌<◌, ◌≤◌, ◌==◌, ◌⊎◌, inl, inr, ⊎_elim, Bool, true, false, cond, Some, List, [], ◌∷◌, ◌++◌, length, get_or, slice_get, length-append, map, take, add-one, ◌^◌, arith, eqb-true, eq-eqb}
use Rattle.std.proofs.Math.Seq.{take-suc}
use Rattle.std.proofs.lemmas.List.{append-nil, length-map, map-append}
use mathlib.Core.List.{IsPrefix}
use Rattle.lock_queues.specs.Reasons.{Among}
use Rattle.path_counts.specs.Paths.{Has}
use Rattle.binding_model.specs.declared.tables.Table.{Table}
use Rattle.bound_specs.specs.Spec.{Spec, queues_of, ranks, ranks_by, line_of, line_by}
use Rattle.spec_schedules.specs.declared.kind.Kind.{Kind}
use Rattle.spec_schedules.specs.Ranked.{IsOrderAt, IsOrderBy}
use Rattle.spec_schedules.specs.Laws.{OrdersAreAlone}
use Rattle.order_classes.specs.declared.shows.Shows.{Shows}
use Rattle.order_classes.specs.Numbers.{RiseFrom}
use Rattle.different_shows.specs.Different.{AreDifferent, HasNumber}
use Rattle.schedule_counts.specs.declared.counting.FinalState.{FinalState}
use Rattle.schedule_counts.specs.Classes.{count_of, total_count}
use Rattle.spec_classes.specs.Classes.{ShowsAt, drawn}
use Rattle.spec_classes.specs.Told.{AreTold, IsOfLine, AreOfLines}
use Rattle.spec_classes.proofs.Classing.{get-inside, get-there, same-some, one-shown}

-- ---- the places of a number

abbrev places : ℕ → ℕ → List FinalState → List ℕ
places n off [] = []
places n off (f ∷ fs) = cond (f.shows == n) (off ∷ places n (suc off) fs) (places n (suc off) fs)

rise-weaker : (low high : ℕ) (rs : List ℕ) → low ≤ high → RiseFrom high rs → RiseFrom low rs
rise-weaker low high [] le rise = tt
rise-weaker low high (r ∷ rs) le rise = ((let first = rise.0 in omega arith), rise.1)

places-rise : (n off : ℕ) (fs : List FinalState) → RiseFrom off (places n off fs)
places-rise n off [] = tt
places-rise n off (f ∷ fs) = at (f.shows == n) (places-rise n (suc off) fs)
  where
    at : (b : Bool) → RiseFrom (suc off) (places n (suc off) fs) → RiseFrom off (cond b (off ∷ places n (suc off) fs) (places n (suc off) fs))
    at true rec = (omega arith, rec)
    at false rec = rise-weaker off (suc off) (places n (suc off) fs) (omega arith) rec

places-count : (n off : ℕ) (fs : List FinalState) → ((f : FinalState) → Has f fs → f.count ≡ 1) → length (places n off fs) ≡ count_of n fs
places-count n off [] one = refl
places-count n off (f ∷ fs) one = at (f.shows == n) (places-count n (suc off) fs (λ g has. one g (inr has))) (one f (inl refl))
  where
    at : (b : Bool) → length (places n (suc off) fs) ≡ count_of n fs → f.count ≡ 1
        → length (cond b (off ∷ places n (suc off) fs) (places n (suc off) fs)) ≡ cond b (f.count + count_of n fs) (count_of n fs)
    at true rec e = omega arith
    at false rec e = rec

-- a state with the number stands at the place
abbrev StandsAt : ℕ → ℕ → List FinalState → ℕ → Type 0
StandsAt n off fs r = (k : ℕ) × (r ≡ off + k) × (f : FinalState) × (slice_get fs k ≡ Some f) × (f.shows ≡ n)

behind-one : (n off : ℕ) (f : FinalState) (fs : List FinalState) (r : ℕ) → StandsAt n (suc off) fs r → StandsAt n off (f ∷ fs) r
behind-one n off f fs r x = (let at = x.1 in (suc x.0, omega arith, x.2, x.3, x.4))

in-places : (n off : ℕ) (fs : List FinalState) (r : ℕ) → Among r (places n off fs) → StandsAt n off fs r
in-places n off [] r m = absurd m
in-places n off (f ∷ fs) r m = at (f.shows == n) refl m (λ x. in-places n (suc off) fs r x)
  where
    at : (b : Bool) → (f.shows == n) ≡ b → Among r (cond b (off ∷ places n (suc off) fs) (places n (suc off) fs)) → (Among r (places n (suc off) fs) → StandsAt n (suc off) fs r) → StandsAt n off (f ∷ fs) r
    at true e (inl is) rec = (0, omega arith, f, refl, eqb-true f.shows n e)
    at true e (inr m) rec = behind-one n off f fs r (rec m)
    at false e m rec = behind-one n off f fs r (rec m)

to-places : (n off : ℕ) (fs : List FinalState) (k : ℕ) (f : FinalState) → slice_get fs k ≡ Some f → f.shows ≡ n → Among (off + k) (places n off fs)
to-places n off [] k f at e = absurd (cc)
to-places n off (g ∷ fs) zero f at e = by (g.shows == n) refl
  where
    same : g.shows ≡ n
    same = ap (λ (x : FinalState). x.shows) (same-some g f at) ∙ e

    by : (b : Bool) → (g.shows == n) ≡ b → Among (off + 0) (cond b (off ∷ places n (suc off) fs) (places n (suc off) fs))
    by true is = inl (omega arith)
    by false is = absurd (let bad = sym is ∙ eq-eqb g.shows n same in cc)
to-places n off (g ∷ fs) (suc k) f at e = by (g.shows == n) (to-places n (suc off) fs k f at e)
  where
    by : (b : Bool) → Among (suc off + k) (places n (suc off) fs) → Among (off + suc k) (cond b (off ∷ places n (suc off) fs) (places n (suc off) fs))
    by true rec = inr (subst (λ r. Among r (places n (suc off) fs)) (omega arith) rec)
    by false rec = subst (λ r. Among r (places n (suc off) fs)) (omega arith) rec

place-in : (fs : List FinalState) (f : FinalState) → Has f fs → (k : ℕ) × (slice_get fs k ≡ Some f)
place-in [] f has = absurd has
place-in (g ∷ fs) f (inl e) = (0, ap Some (sym e))
place-in (g ∷ fs) f (inr has) = (let rec = place-in fs f has in (suc rec.0, rec.1))

in-list : (fs : List FinalState) (k : ℕ) (f : FinalState) → slice_get fs k ≡ Some f → Has f fs
in-list [] k f e = absurd (cc)
in-list (g ∷ fs) zero f e = inl (sym (same-some g f e))
in-list (g ∷ fs) (suc k) f e = inr (in-list fs k f e)

total-ones : (fs : List FinalState) → ((f : FinalState) → Has f fs → f.count ≡ 1) → total_count fs ≡ length fs
total-ones [] one = refl
total-ones (f ∷ fs) one = (let rec = total-ones fs (λ g has. one g (inr has)) in let e = one f (inl refl) in omega arith)

-- a rank of a spec with lines is the number of a line
rank-inside : (kind : Kind) (run : Spec) (lines : List (List ℕ)) (rank : ℕ) (ks : List ℕ) → lines ≢ [] → IsOrderBy kind run lines rank ks → rank < length lines
rank-inside kind run [] rank ks some h = absurd (some refl)
rank-inside kind run (l ∷ ls) rank ks some h = get-inside (l ∷ ls) rank ks h

module _ (kind : Kind) (tables : List Table) (run : Spec) (shown : List Shows) (states : List FinalState) (alone : OrdersAreAlone) (differ : AreDifferent shown)
    (some : run.lines ≢ []) (few : length run.lines < 2 ^ 63) (are : AreOfLines tables run kind shown (length run.lines) states) where
  one-each : (f : FinalState) → Has f states → f.count ≡ 1
  one-each f has = (let k = place-in states f has in (are.each k.0 f k.1).count)

  -- the state of a rank
  record IsStateAt (rank : ℕ) (s : Shows) : Type 0 where
    pub state : FinalState
    pub at : slice_get states rank ≡ Some state
    pub shows : slice_get shown state.shows ≡ Some s
    pub first : state.first ≡ rank

  state-at : (rank : ℕ) (s : Shows) → ShowsAt kind tables run rank s → IsStateAt rank s
  state-at rank s so =
      let inside = rank-inside kind run run.lines rank so.0 some so.1 in
      let long = are.long in
      let f = get-there states rank (omega arith) in
      let is = are.each rank f.0 f.1 in
      record { state = f.0; at = f.1; shows = is.at ∙ ap Some (one-shown kind tables run shown alone rank is.shows s is.does so); first = is.first }

  pub lines-told : AreTold kind tables run shown states
  lines-told = record {
    numbers = λ n s at. record {
      ranks = places n 0 states;
      rise = places-rise n 0 states;
      has = λ r. (
        (λ m. (let x = in-places n 0 states r m in
            let is = are.each x.0 x.2 x.3 in
            let shows : is.shows ≡ s = same-some is.shows s (sym is.at ∙ ap (λ k. slice_get shown k) x.4 ∙ at) in
            let far = x.1 in
            let rank : x.0 ≡ r = omega arith in
            subst (λ k. ShowsAt kind tables run k s) rank (subst (λ t. ShowsAt kind tables run x.0 t) shows is.does))),
        (λ so. (let x = state-at r s so in
            let number : x.state.shows ≡ n = differ x.state.shows n s x.shows at in
            subst (λ k. Among k (places n 0 states)) (omega arith) (to-places n 0 states r x.state x.at number))),
      );
      count = places-count n 0 states one-each;
    };
    some = λ rank s so. (let x = state-at rank s so in let first = x.first in record { state = x.state; inside = in-list states rank x.state x.at; at = x.shows; below = omega arith });
    met = λ f has.
        (let k = place-in states f has in
        let is = are.each k.0 f k.1 in
        let one = is.count in
        record { shows = is.shows; at = is.at; first = subst (λ r. ShowsAt kind tables run r is.shows) (sym is.first) is.does; some = omega arith });
    few = (let total = total-ones states one-each in let long = are.long in omega arith);
  }

-- ---- one line more

pub front-get : {A : Type 0} (old new : List A) (n : ℕ) (s : A) → IsPrefix old new → slice_get old n ≡ Some s → slice_get new n ≡ Some s
front-get {A} old new n s p e = subst (λ l. slice_get l n ≡ Some s) p.1 (at old p.0 n e)
  where
    at : (xs ys : List A) (k : ℕ) → slice_get xs k ≡ Some s → slice_get (xs ++ ys) k ≡ Some s
    at [] ys k f = absurd (cc)
    at (x ∷ xs) ys zero f = f
    at (x ∷ xs) ys (suc k) f = at xs ys k f

last-get : (fs : List FinalState) (f g : FinalState) (k : ℕ) → slice_get (fs ++ f ∷ []) k ≡ Some g → (slice_get fs k ≡ Some g) ⊎ ((k ≡ length fs) × (g ≡ f))
last-get [] f g zero e = inr (refl, sym (same-some f g e))
last-get [] f g (suc k) e = absurd (cc)
last-get (x ∷ fs) f g zero e = inl e
last-get (x ∷ fs) f g (suc k) e = ⊎_elim (λ h. inl h) (λ h. inr (ap suc h.0, h.1)) (last-get fs f g k e)

module _ (tables : List Table) (run : Spec) (kind : Kind) where
  pub lines-next : (old new : List Shows) (n : ℕ) (fs : List FinalState) (f : FinalState) → IsPrefix old new → AreOfLines tables run kind old n fs → IsOfLine tables run kind new n f
      → AreOfLines tables run kind new (n + 1) (fs ++ f ∷ [])
  lines-next old new n fs f p h is = record {
    long = length-append fs (f ∷ []) ∙ ap (λ k. k + 1) h.long;
    each = λ rank g at. ⊎_elim
        (λ e. (let x = h.each rank g e in record { shows = x.shows; at = front-get old new g.shows x.shows p x.at; first = x.first; count = x.count; does = x.does }))
        (λ e. subst (λ r. IsOfLine tables run kind new r g) (sym (e.0 ∙ h.long)) (subst (λ x. IsOfLine tables run kind new n x) (sym e.1) is))
        (last-get fs f g rank at);
  }

pub number-front : (old new : List Shows) (s : Shows) (n : ℕ) → HasNumber old new s n → IsPrefix old new
number-front old new s n h = ⊎_elim (λ e. ([], append-nil old ∙ sym e)) (λ e. (s ∷ [], sym e.1)) h.grown

pub no-lines : (tables : List Table) (run : Spec) (kind : Kind) → AreOfLines tables run kind [] 0 []
no-lines tables run kind = record { long = refl; each = λ rank f e. absurd (cc) }

-- ---- the lines of ranks

line-at : (run : Spec) (rs : List ℕ) (place : ℕ) → place < length rs → slice_get (map (line_of run) rs) place ≡ Some (line_of run (get_or rs place 0))
line-at run [] place lt = absurd (omega arith)
line-at run (r ∷ rs) zero lt = refl
line-at run (r ∷ rs) (suc place) lt = line-at run rs place (omega arith)

-- the order at a place is that of the rank there
pub drawn-order-at : (kind : Kind) (run : Spec) (rs : List ℕ) (place : ℕ) (ks : List ℕ) → place < length rs → ks ≡ line_of run (get_or rs place 0) → IsOrderAt kind (drawn run rs) place ks
drawn-order-at kind run [] place ks lt is = absurd (omega arith)
drawn-order-at kind run (r ∷ rs) place ks lt is = line-at run (r ∷ rs) place lt ∙ ap Some (sym is)

pub drawn-inside : (kind : Kind) (run : Spec) (rs : List ℕ) (place : ℕ) (ks : List ℕ) → rs ≢ [] → IsOrderAt kind (drawn run rs) place ks → place < length rs
drawn-inside kind run [] place ks some h = absurd (some refl)
drawn-inside kind run (r ∷ rs) place ks some h = subst (λ n. place < n) (length-map (r ∷ rs) (line_of run)) (get-inside (map (line_of run) (r ∷ rs)) place ks h)

pub drawn-some : (run : Spec) (rs : List ℕ) → rs ≢ [] → (drawn run rs).lines ≢ []
drawn-some run [] some e = some refl
drawn-some run (r ∷ rs) some e = absurd (cc)

pub ranks-some : (run : Spec) (rs : List ℕ) → run.lines ≢ [] → drawn run rs ≡ run → rs ≢ []
ranks-some run rs some same none = some (sym (ap (λ (r : Spec). r.lines) same) ∙ ap (map (line_of run)) none)

pub drawn-length : (run : Spec) (rs : List ℕ) → drawn run rs ≡ run → length rs ≡ length run.lines
drawn-length run rs same = sym (length-map rs (line_of run)) ∙ ap (λ (r : Spec). length r.lines) same

-- the ranks of all lines are drawn where none is left out
pub drawn-all : (run : Spec) (rs : List ℕ) → map (line_of run) rs ≡ run.lines → drawn run rs ≡ run
drawn-all run rs e = ap (λ ls. record { sessions = run.sessions; steps = run.steps; setups = run.setups; session_setups = run.session_setups; lines = ls }) e

pub ranks-lines : (run : Spec) → run.lines ≢ [] → ranks run ≡ length run.lines
ranks-lines run some = at run.lines some
  where
    at : (ls : List (List ℕ)) → ls ≢ [] → ranks_by ls (queues_of run) ≡ length ls
    at [] some = absurd (some refl)
    at (l ∷ ls) some = refl

line-is : (run : Spec) (rank : ℕ) → run.lines ≢ [] → line_of run rank ≡ get_or run.lines rank []
line-is run rank some = at run.lines some
  where
    at : (ls : List (List ℕ)) → ls ≢ [] → line_by ls (queues_of run) rank ≡ get_or ls rank []
    at [] some = absurd (some refl)
    at (l ∷ ls) some = refl

-- one more of the ranks of all lines
pub drawn-next : (run : Spec) (rs : List ℕ) (n : ℕ) → run.lines ≢ [] → n < length run.lines → map (line_of run) rs ≡ take n run.lines → map (line_of run) (rs ++ n ∷ []) ≡ take (n + 1) run.lines
drawn-next run rs n some lt e =
    map-append (line_of run) rs (n ∷ []) ∙ ap (λ ls. ls ++ line_of run n ∷ []) e ∙ ap (λ l. take n run.lines ++ l ∷ []) (line-is run n some)
    ∙ sym (take-suc run.lines n [] lt) ∙ ap (λ k. take k run.lines) (sym (add-one n))

-- where it is told that there are no lines, there are none
pub no-lines-left : (ls : List (List ℕ)) (b : Bool) → b ≡ false → (b ≡ true) ↔ (ls ≢ []) → ls ≡ []
no-lines-left [] b e told = refl
no-lines-left (l ∷ ls) b e told = absurd (let bad = sym (told.1 (λ q. cc)) ∙ e in cc)
