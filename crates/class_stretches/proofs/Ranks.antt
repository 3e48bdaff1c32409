-- Which class a rank has, and what a list is with ranks put behind it.
use Rattle.std.proofs.Common.{◌≡◌, refl, sym, ap, ◌∙◌, subst, ℕ, ◌+◌, ◌<◌, ◌≤◌, ◌==◌, Bool, true, false, cond, Option, Some, None, List, [], ◌∷◌, arith}
use Rattle.std.proofs.Common.{◌⊎◌, ⊎_elim}
use Rattle.std.proofs.lemmas.Bool.{lt-ltb, le-ltb, eqb-true, eq-eqb, ne_eqb}
use Rattle.class_stretches.specs.declared.stretch.Stretch.{Stretch}
use Rattle.class_stretches.specs.Stretches.{class_at, end_from, same_class, BeginsOther, AreStretches, MayCome, with_class, AreInOrder}
use Rattle.class_stretches.specs.Growing.{pushed}

pub same-is : (c d : Option ℕ) → same_class c d ≡ true → c ≡ d
same-is None None e = refl
same-is None (Some d) e = cc
same-is (Some c) None e = cc
same-is (Some c) (Some d) e = ap Some (eqb-true c d e)

pub same-refl : (c : Option ℕ) → same_class c c ≡ true
same-refl None = refl
same-refl (Some c) = eq-eqb c c refl

pub front-class : (s : Stretch) (ss : List Stretch) (r : ℕ) → r < s.end → class_at (s ∷ ss) r ≡ s.class
front-class s ss r lt = ap (λ b. cond b s.class (class_at ss r)) (lt-ltb r s.end lt)

pub past-front : (s : Stretch) (ss : List Stretch) (r : ℕ) → s.end ≤ r → class_at (s ∷ ss) r ≡ class_at ss r
past-front s ss r le = ap (λ b. cond b s.class (class_at ss r)) (le-ltb r s.end le)

-- a rank is in the first stretch or past it
pub front-or-past : (r e : ℕ) → (r < e) ⊎ (e ≤ r)
front-or-past r e = grind arith

pub ends-behind : (low : ℕ) (ss : List Stretch) → AreStretches low ss → low ≤ end_from low ss
ends-behind low [] a = omega arith
ends-behind low (s ∷ ss) a =
    let rest = ends-behind s.end ss a.2 in
    let first = a.0 in
    omega (arith, rest, first)

-- ---- ranks put behind

begins-pushed : (x : Option ℕ) (t : Stretch) (ss : List Stretch) (e : ℕ) (c : Option ℕ) → same_class x t.class ≡ false → BeginsOther x (pushed (t ∷ ss) e c)
begins-pushed x t [] e c other = at (same_class t.class c) refl
  where
    at : (b : Bool) → same_class t.class c ≡ b
        → BeginsOther x (cond b (record { end = e; class = c } ∷ []) (t ∷ record { end = e; class = c } ∷ []))
    at true is = subst (λ d. same_class x d ≡ false) (same-is t.class c is) other
    at false is = other
begins-pushed x t (u ∷ us) e c other = other

pub pushed-stretches : (low : ℕ) (ss : List Stretch) (e : ℕ) (c : Option ℕ) → AreStretches low ss → end_from low ss < e → AreStretches low (pushed ss e c)
pushed-stretches low [] e c a lt = (lt, tt, tt)
pushed-stretches low (s ∷ []) e c a lt = at (same_class s.class c) refl
  where
    at : (b : Bool) → same_class s.class c ≡ b
        → AreStretches low (cond b (record { end = e; class = c } ∷ []) (s ∷ record { end = e; class = c } ∷ []))
    at true is = let first = a.0 in (omega (arith, first, lt), tt, tt)
    at false is = (a.0, is, (lt, tt, tt))
pushed-stretches low (s ∷ t ∷ ss) e c a lt = (a.0, begins-pushed s.class t ss e c a.1, pushed-stretches s.end (t ∷ ss) e c a.2 lt)

pub pushed-end : (low : ℕ) (ss : List Stretch) (e : ℕ) (c : Option ℕ) → end_from low (pushed ss e c) ≡ e
pushed-end low [] e c = refl
pushed-end low (s ∷ []) e c = at (same_class s.class c)
  where
    at : (b : Bool) → end_from low (cond b (record { end = e; class = c } ∷ []) (s ∷ record { end = e; class = c } ∷ [])) ≡ e
    at true = refl
    at false = refl
pushed-end low (s ∷ t ∷ ss) e c = pushed-end s.end (t ∷ ss) e c

pub pushed-before : (low : ℕ) (ss : List Stretch) (e : ℕ) (c : Option ℕ) (r : ℕ) → AreStretches low ss → end_from low ss < e → low ≤ r
    → r < end_from low ss → class_at (pushed ss e c) r ≡ class_at ss r
pushed-before low [] e c r a more from lt = absurd (omega (arith, from, lt))
pushed-before low (s ∷ []) e c r a more from lt = at (same_class s.class c) refl
  where
    at : (b : Bool) → same_class s.class c ≡ b
        → class_at (cond b (record { end = e; class = c } ∷ []) (s ∷ record { end = e; class = c } ∷ [])) r ≡ class_at (s ∷ []) r
    at true is =
        front-class (record { end = e; class = c }) [] r (omega (arith, more, lt)) ∙ sym (same-is s.class c is) ∙ sym (front-class s [] r lt)
    at false is = front-class s (record { end = e; class = c } ∷ []) r lt ∙ sym (front-class s [] r lt)
pushed-before low (s ∷ t ∷ ss) e c r a more from lt =
    ⊎_elim
    (λ h. front-class s (pushed (t ∷ ss) e c) r h ∙ sym (front-class s (t ∷ ss) r h))
    (λ h. past-front s (pushed (t ∷ ss) e c) r h ∙ pushed-before s.end (t ∷ ss) e c r a.2 more h lt ∙ sym (past-front s (t ∷ ss) r h))
    (front-or-past r s.end)

pub pushed-behind : (low : ℕ) (ss : List Stretch) (e : ℕ) (c : Option ℕ) (r : ℕ) → AreStretches low ss → end_from low ss ≤ r → r < e
    → class_at (pushed ss e c) r ≡ c
pushed-behind low [] e c r a from lt = front-class (record { end = e; class = c }) [] r lt
pushed-behind low (s ∷ []) e c r a from lt = at (same_class s.class c)
  where
    at : (b : Bool) → class_at (cond b (record { end = e; class = c } ∷ []) (s ∷ record { end = e; class = c } ∷ [])) r ≡ c
    at true = front-class (record { end = e; class = c }) [] r lt
    at false = past-front s (record { end = e; class = c } ∷ []) r from ∙ front-class (record { end = e; class = c }) [] r lt
pushed-behind low (s ∷ t ∷ ss) e c r a from lt =
    let above = ends-behind s.end (t ∷ ss) a.2 in
    past-front s (pushed (t ∷ ss) e c) r (omega (arith, above, from)) ∙ pushed-behind s.end (t ∷ ss) e c r a.2 from lt

-- ---- the order of numbers

pub with-grows : (n : ℕ) (c : Option ℕ) → n ≤ with_class n c
with-grows n None = omega arith
with-grows n (Some c) = at (c == n)
  where
    at : (b : Bool) → n ≤ cond b (n + 1) n
    at true = omega arith
    at false = omega arith

-- a class that is there is no other
pub with-known : (n c : ℕ) → c < n → with_class n (Some c) ≡ n
with-known n c lt = ap (λ b. cond b (n + 1) n) (ne_eqb c n (λ e. omega (arith, lt, e)))

pub with-next : (n : ℕ) → with_class n (Some n) ≡ n + 1
with-next n = ap (λ b. cond b (n + 1) n) (eq-eqb n n refl)

pub known-or-next : (n c : ℕ) → c ≤ n → (c < n) ⊎ (c ≡ n)
known-or-next n c le = grind arith

with-above : (n c : ℕ) → c ≤ n → c < with_class n (Some c)
with-above n c le =
    ⊎_elim (λ h. subst (λ m. c < m) (sym (with-known n c h)) h)
    (λ h. let w : n + 1 ≡ with_class n (Some c) = sym (subst (λ m. with_class n (Some m) ≡ n + 1) (sym h) (with-next n)) in
    subst (λ m. c < m) w (omega (arith, h))) (known-or-next n c le)

with-again : (n : ℕ) (c : Option ℕ) → MayCome n c → with_class (with_class n c) c ≡ with_class n c
with-again n None may = refl
with-again n (Some c) may = with-known (with_class n (Some c)) c (with-above n c may)

pub pushed-order : (n : ℕ) (ss : List Stretch) (m e : ℕ) (c : Option ℕ) → AreInOrder n ss m → MayCome m c → AreInOrder n (pushed ss e c) (with_class m c)
pushed-order n [] m e c o may = (subst (λ k. MayCome k c) (sym o) may, ap (λ k. with_class k c) o)
pushed-order n (s ∷ []) m e c o may = at (same_class s.class c) refl
  where
    at : (b : Bool) → same_class s.class c ≡ b
        → AreInOrder n (cond b (record { end = e; class = c } ∷ []) (s ∷ record { end = e; class = c } ∷ [])) (with_class m c)
    at true is =
        let same = same-is s.class c is in
        let come : MayCome n c = subst (λ d. MayCome n d) same o.0 in
        let all : with_class n c ≡ m = subst (λ d. with_class n d ≡ m) same o.1 in
        (come, sym (with-again n c come) ∙ ap (λ k. with_class k c) all)
    at false is = (o.0, (subst (λ k. MayCome k c) (sym o.1) may, ap (λ k. with_class k c) o.1))
pushed-order n (s ∷ t ∷ ss) m e c o may = (o.0, pushed-order (with_class n s.class) (t ∷ ss) m e c o.1 may)

pub order-grows : (n : ℕ) (ss : List Stretch) (m : ℕ) → AreInOrder n ss m → n ≤ m
order-grows n [] m o = omega (arith, o)
order-grows n (s ∷ ss) m o =
    let first = with-grows n s.class in
    let rest = order-grows (with_class n s.class) ss m o.1 in
    omega (arith, first, rest)

-- a class that a rank has is there
pub class-below : (n : ℕ) (ss : List Stretch) (m r c : ℕ) → AreInOrder n ss m → class_at ss r ≡ Some c → c < m
class-below n [] m r c o is = absurd (let e : None ≡ Some c = is in cc)
class-below n (s ∷ ss) m r c o is =
    ⊎_elim here (λ h. class-below (with_class n s.class) ss m r c o.1 (sym (past-front s ss r h) ∙ is)) (front-or-past r s.end)
  where
    here : r < s.end → c < m
    here lt =
        let own : s.class ≡ Some c = sym (front-class s ss r lt) ∙ is in
        let come : c ≤ n = subst (λ d. MayCome n d) own o.0 in
        let above = with-above n c come in
        let rest : AreInOrder (with_class n (Some c)) ss m = subst (λ d. AreInOrder (with_class n d) ss m) own o.1 in
        let grows = order-grows (with_class n (Some c)) ss m rest in
        omega (arith, above, grows)

there : (m : ℕ) (c : Option ℕ) → ((k : ℕ) → c ≡ Some k → k < m) → MayCome m c × (with_class m c ≡ m)
there m None f = (tt, refl)
there m (Some k) f = let lt = f k refl in (omega (arith, lt), with-known m k lt)

-- the class of a rank is there, so that it adds none
pub class-there : (n : ℕ) (ss : List Stretch) (m r : ℕ) → AreInOrder n ss m → MayCome m (class_at ss r) × (with_class m (class_at ss r) ≡ m)
class-there n ss m r o = there m (class_at ss r) (λ k is. class-below n ss m r k o is)
