-- The place of the stretch that a rank is in.
use Rattle.std.proofs.Common.{◌≡◌, refl, sym, ap, ◌∙◌, subst, ℕ, zero, suc, ◌+◌, ◌-◌, ◌<◌, ◌≤◌, Bool, true, false, cond, Option, None, List, [], ◌∷◌, length, get_or, min, arith, add-one}
use Rattle.std.proofs.Common.{⊎_elim}
use Rattle.class_stretches.specs.declared.stretch.Stretch.{Stretch}
use Rattle.class_stretches.specs.Stretches.{class_at, end_from, end_of, IsStretchAt, same_class, AreStretches, MayCome, with_class, AreInOrder}
use Rattle.class_stretches.specs.Growing.{end_at, class_of, pushed}
use Rattle.class_stretches.specs.Copying.{IsCopiedList}
use Rattle.class_stretches.proofs.Ranks.{front-class, past-front, front-or-past, pushed-stretches, pushed-end, pushed-before, pushed-behind, pushed-order, class-there, ends-behind}

-- of stretches that begin here the one at this place has the rank
abbrev pub IsPlace : ℕ → List Stretch → ℕ → ℕ → Type 0
IsPlace low [] k r = ⊥
IsPlace low (s ∷ ss) zero r = (low ≤ r) × (r < s.end)
IsPlace low (s ∷ ss) (suc k) r = IsPlace s.end ss k r

low-below : (low : ℕ) (ss : List Stretch) (k : ℕ) → AreStretches low ss → k < length ss → low < end_at ss k
low-below low [] k a lt = absurd (omega (arith, lt))
low-below low (s ∷ ss) zero a lt = a.0
low-below low (s ∷ ss) (suc k) a lt = let rest = low-below s.end ss k a.2 (omega (arith, lt)) in let first = a.0 in omega (arith, rest, first)

pub ends-rise : (low : ℕ) (ss : List Stretch) (j k : ℕ) → AreStretches low ss → j ≤ k → k < length ss → end_at ss j ≤ end_at ss k
ends-rise low [] j k a le lt = absurd (omega (arith, lt))
ends-rise low (s ∷ ss) zero zero a le lt = omega arith
ends-rise low (s ∷ ss) zero (suc k) a le lt = let rest = low-below s.end ss k a.2 (omega (arith, lt)) in omega (arith, rest)
ends-rise low (s ∷ ss) (suc j) zero a le lt = absurd (omega (arith, le))
ends-rise low (s ∷ ss) (suc j) (suc k) a le lt = ends-rise s.end ss j k a.2 (omega (arith, le)) (omega (arith, lt))

pub place-from : (low : ℕ) (ss : List Stretch) (k r : ℕ) → AreStretches low ss → low ≤ r → ((j : ℕ) → j < k → end_at ss j ≤ r)
    → (k < length ss → r < end_at ss k) → r < end_from low ss → IsPlace low ss k r
place-from low [] k r a from before behind lt = omega (arith, from, lt)
place-from low (s ∷ ss) zero r a from before behind lt = (from, behind (omega arith))
place-from low (s ∷ ss) (suc k) r a from before behind lt =
    place-from s.end ss k r a.2 (before 0 (omega arith)) (λ j h. before (suc j) (omega (arith, h))) (λ h. behind (omega (arith, h))) lt

place-inside : (low : ℕ) (ss : List Stretch) (k r : ℕ) → IsPlace low ss k r → k < length ss
place-inside low [] k r p = absurd p
place-inside low (s ∷ ss) zero r p = omega arith
place-inside low (s ∷ ss) (suc k) r p = let rest = place-inside s.end ss k r p in omega (arith, rest)

place-below : (low : ℕ) (ss : List Stretch) (k r : ℕ) → IsPlace low ss k r → r < end_at ss k
place-below low [] k r p = absurd p
place-below low (s ∷ ss) zero r p = p.1
place-below low (s ∷ ss) (suc k) r p = place-below s.end ss k r p

place-above : (low : ℕ) (ss : List Stretch) (k r : ℕ) → AreStretches low ss → IsPlace low ss k r → low ≤ r
place-above low [] k r a p = absurd p
place-above low (s ∷ ss) zero r a p = p.0
place-above low (s ∷ ss) (suc k) r a p = let rest = place-above s.end ss k r a.2 p in let first = a.0 in omega (arith, rest, first)

-- the ranks from there up to the end of the stretch are in its class
pub place-class : (low : ℕ) (ss : List Stretch) (k r q : ℕ) → AreStretches low ss → IsPlace low ss k r → r ≤ q → q < end_at ss k → class_at ss q ≡ class_of ss k
place-class low [] k r q a p from lt = absurd p
place-class low (s ∷ ss) zero r q a p from lt = front-class s ss q lt
place-class low (s ∷ ss) (suc k) r q a p from lt =
    let above = place-above s.end ss k r a.2 p in
    past-front s ss q (omega (arith, above, from)) ∙ place-class s.end ss k r q a.2 p from lt

pub place-next : (low : ℕ) (ss : List Stretch) (k r : ℕ) → AreStretches low ss → IsPlace low ss k r → end_at ss k < end_from low ss
    → IsPlace low ss (suc k) (end_at ss k)
place-next low [] k r a p lt = p
place-next low (s ∷ []) zero r a p lt = absurd (omega (arith, lt))
place-next low (s ∷ t ∷ ss) zero r a p lt = let second = a.2 in (omega arith, second.0)
place-next low (s ∷ ss) (suc k) r a p lt = place-next s.end ss k r a.2 p lt

pub place-pushed : (low : ℕ) (ss : List Stretch) (k r e : ℕ) (c : Option ℕ) → AreStretches low ss → end_from low ss ≤ e → IsPlace low ss k r
    → IsPlace low (pushed ss e c) k r
place-pushed low [] k r e c a le p = absurd p
place-pushed low (s ∷ []) zero r e c a le p = at (same_class s.class c)
  where
    at : (b : Bool) → IsPlace low (cond b (record { end = e; class = c } ∷ []) (s ∷ record { end = e; class = c } ∷ [])) zero r
    at true = let lt = p.1 in (p.0, omega (arith, lt, le))
    at false = p
place-pushed low (s ∷ []) (suc k) r e c a le p = absurd p
place-pushed low (s ∷ t ∷ ss) zero r e c a le p = p
place-pushed low (s ∷ t ∷ ss) (suc k) r e c a le p = place-pushed s.end (t ∷ ss) k r e c a.2 le p

-- the class at a place found by a search is that of the rank
pub place-tells : (low : ℕ) (ss : List Stretch) (k r : ℕ) → ((j : ℕ) → j < k → end_at ss j ≤ r) → k < length ss → r < end_at ss k
    → class_at ss r ≡ class_of ss k
place-tells low [] k r before inside lt = absurd (omega (arith, inside))
place-tells low (s ∷ ss) zero r before inside lt = front-class s ss r lt
place-tells low (s ∷ ss) (suc k) r before inside lt =
    past-front s ss r (before 0 (omega arith))
    ∙ place-tells s.end ss k r (λ j h. before (suc j) (omega (arith, h))) (omega (arith, inside)) lt

-- each of them ends within the end of all
pub place-ends : (low : ℕ) (ss : List Stretch) (k : ℕ) → AreStretches low ss → k < length ss → end_at ss k ≤ end_from low ss
place-ends low [] k a lt = absurd (omega (arith, lt))
place-ends low (s ∷ ss) zero a lt = ends-behind s.end ss a.2
place-ends low (s ∷ ss) (suc k) a lt = place-ends s.end ss k a.2 (omega (arith, lt))

-- where all of them end before a rank, so does the last one
pub ends-before : (low : ℕ) (ss : List Stretch) (k r : ℕ) → low ≤ r → ((j : ℕ) → j < k → end_at ss j ≤ r) → length ss ≤ k → end_from low ss ≤ r
ends-before low [] k r from before le = from
ends-before low (s ∷ ss) zero r from before le = absurd (omega (arith, le))
ends-before low (s ∷ ss) (suc k) r from before le =
    ends-before s.end ss k r (before 0 (omega arith)) (λ j h. before (suc j) (omega (arith, h))) (omega (arith, le))

-- the stretch at a place found by a search is the one that the rank is in
pub place-stretch : (ss : List Stretch) (k r : ℕ) → AreStretches 0 ss → ((j : ℕ) → j < k → end_at ss j ≤ r) → k < length ss → r < end_at ss k
    → IsStretchAt ss r (record { end = end_at ss k; class = class_of ss k })
place-stretch ss k r a before inside lt = record {
  some = lt;
  inside = place-ends 0 ss k a inside;
  each = λ q from below.
      (let up : (j : ℕ) → j < k → end_at ss j ≤ q = λ j h. (let e = before j h in omega (arith, e, from)) in
      place-tells 0 ss k q up inside below);
}

pub none-past : (ss : List Stretch) (k r : ℕ) → ((j : ℕ) → j < k → end_at ss j ≤ r) → length ss ≤ k → class_at ss r ≡ None
none-past [] k r before le = refl
none-past (s ∷ ss) zero r before le = absurd (omega (arith, le))
none-past (s ∷ ss) (suc k) r before le =
    past-front s ss r (before 0 (omega arith)) ∙ none-past ss k r (λ j h. before (suc j) (omega (arith, h))) (omega (arith, le))

-- ---- copies

copies-none : (old : List Stretch) (from : ℕ) → AreStretches 0 old → IsCopiedList old old from (end_of old)
copies-none old from a = record {
  stretches = a;
  order = λ n o. o;
  before = λ r lt. refl;
  behind = λ r ge lt. absurd (omega (arith, ge, lt));
  ends = refl;
}

-- of ranks from this one on copies are put behind, up to the end of its stretch or less
copies-more : (old l : List Stretch) (from at upto start k : ℕ) → start ≡ end_of old → from ≤ at → at < upto → upto ≤ start → IsPlace 0 l k at
    → upto ≤ end_at l k → IsCopiedList old l from (start + (at - from))
    → IsCopiedList old (pushed l (start + (upto - from)) (class_of l k)) from (start + (upto - from))
copies-more old l from at upto start k is le lt inside place within so =
    let c = class_of l k in
    let e = start + (upto - from) in
    let ends : end_of l ≡ start + (at - from) = so.ends in
    let more : end_of l < e = omega (arith, ends, le, lt) in
    let here : class_at l at ≡ c = place-class 0 l k at at so.stretches place (omega arith) (omega (arith, lt, within)) in
    record {
      stretches = pushed-stretches 0 l e c so.stretches more;
      order = λ n o.
          (let own = so.order n o in
          let known = class-there 0 l n at own in
          let come : MayCome n c = subst (λ d. MayCome n d) here known.0 in
          let all : with_class n c ≡ n = subst (λ d. with_class n d ≡ n) here known.1 in
          subst (λ m. AreInOrder 0 (pushed l e c) m) all (pushed-order 0 l n e c own come));
      before = λ r below.
          (let inner : r < end_of l = omega (arith, ends, below, is) in
          pushed-before 0 l e c r so.stretches more (omega arith) inner ∙ so.before r below);
      behind = λ r ge below.
          ⊎_elim (λ h. pushed-before 0 l e c r so.stretches more (omega arith) h ∙ so.behind r ge (omega (arith, h, ends)))
          (λ h. (let q = from + (r - end_of old) in
          let q0 : at ≤ q = omega (arith, h, ends, le, is, ge) in
          let q1 : q < upto = omega (arith, below, is, ge, le, lt) in
          let q2 : q < end_of old = omega (arith, q1, inside, is) in
          pushed-behind 0 l e c r so.stretches h below
          ∙ sym (place-class 0 l k at q so.stretches place q0 (omega (arith, q1, within)))
          ∙ so.before q q2)) (front-or-past r (end_of l));
      ends = pushed-end 0 l e c;
    }

-- what is read at a place
stretch-is : (ss : List Stretch) (k : ℕ) (t : Stretch) → k < length ss → t ≡ get_or ss k t → (t.end ≡ end_at ss k) × (t.class ≡ class_of ss k)
stretch-is [] k t lt is = absurd (omega (arith, lt))
stretch-is (s ∷ ss) zero t lt is = (ap (λ (x : Stretch). x.end) is, ap (λ (x : Stretch). x.class) is)
stretch-is (s ∷ ss) (suc k) t lt is = stretch-is ss k t (omega (arith, lt)) is

-- the ranks from the first to copy up to this one are copied, and it is in the stretch at the place, unless it is the end
pub record IsCopying (old l : List Stretch) (from start end place at : ℕ) : Type 0 where
  pub starts : start ≡ end_of old
  pub inside : end ≤ start
  pub begun : from ≤ at
  pub to : at ≤ end
  pub copied : IsCopiedList old l from (start + (at - from))
  pub is_place : at < end → IsPlace 0 l place at

pub copying-start : (old : List Stretch) (from start end place : ℕ) → start ≡ end_of old → from ≤ end → end ≤ start → AreStretches 0 old
    → ((k : ℕ) → k < place → end_at old k ≤ from) → (place < length old → from < end_at old place) → IsCopying old old from start end place from
copying-start old from start end place is le inside a before behind = record {
  starts = is;
  inside = inside;
  begun = omega arith;
  to = le;
  copied = let same : end_of old ≡ start + (from - from) = omega (arith, is) in subst (IsCopiedList old old from) same (copies-none old from a);
  is_place = λ lt. place-from 0 old place from a (omega arith) before behind (omega (arith, lt, inside, is));
}

pub copying-inside : {old l : List Stretch} {from start end place at : ℕ} → at < end → IsCopying old l from start end place at → place < length l
copying-inside {l = l} {place = place} {at = at} lt so = place-inside 0 l place at (so.is_place lt)

copying-next : (old l : List Stretch) (from start end place at upto : ℕ) → at < end → IsCopying old l from start end place at
    → upto ≡ min (end_at l place) end
    → (at < upto) × IsCopying old (pushed l (start + (upto - from)) (class_of l place)) from start end (place + 1) upto
copying-next old l from start end place at upto lt so min_is =
    let own = so.is_place lt in
    let starts = so.starts in
    let inside = so.inside in
    let begun = so.begun in
    let below : at < end_at l place = place-below 0 l place at own in
    let within : upto ≤ end_at l place = omega (arith, min_is) in
    let to : upto ≤ end = omega (arith, min_is) in
    let more : at < upto = omega (arith, min_is, below, lt) in
    let ends : end_of l ≡ start + (at - from) = so.copied.ends in (
      more,
      record {
        starts = starts;
        inside = inside;
        begun = omega (arith, begun, more);
        to = to;
        copied = copies-more old l from at upto start place starts begun more (omega (arith, to, inside)) own within so.copied;
        is_place = λ short.
            (let same : end_at l place ≡ upto = omega (arith, min_is, short) in
            let short' : end_at l place < end_of l = omega (arith, same, short, inside, ends) in
            let next = place-next 0 l place at so.copied.stretches own short' in
            let here : IsPlace 0 l (place + 1) upto = rw add-one (subst (IsPlace 0 l (suc place)) same next) in
            place-pushed 0 l (place + 1) upto (start + (upto - from)) (class_of l place) so.copied.stretches (omega (arith, ends, more, begun)) here);
      },
    )

-- one step, by the stretch that was read
pub copying-read : {old l : List Stretch} {from start end place at upto : ℕ} {t : Stretch} → at < end → IsCopying old l from start end place at
    → t ≡ get_or l place t → upto ≡ min t.end end
    → (at < upto) × IsCopying old (pushed l (start + (upto - from)) t.class) from start end (place + 1) upto
copying-read {old = old} {l = l} {from = from} {start = start} {end = end} {place = place} {at = at} {upto = upto} {t = t} lt so read min_is =
    let t_is = stretch-is l place t (copying-inside lt so) read in
    let step = copying-next old l from start end place at upto lt so (min_is ∙ ap (λ e. min e end) t_is.0) in
    (step.0, subst (λ c. IsCopying old (pushed l (start + (upto - from)) c) from start end (place + 1) upto) (sym t_is.1) step.1)
