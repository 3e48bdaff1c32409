-- The classes that pass.
use Rattle.std.proofs.Common.{◌≡◌, ◌≢◌, ◌↔◌, refl, sym, ap, ◌∙◌, subst, ℕ, zero, suc, ◌+◌, ◌<◌, ◌≤◌, Bool, true, false, List, [], ◌∷◌, ◌++◌, take, drop, length, map, slice_get, Option, Some, None, inl, inr, unwrap_or, arith}
use Rattle.lock_queues.specs.Reasons.{Among}
use Rattle.binding_model.specs.declared.tables.Table.{Table}
use Rattle.bound_specs.specs.Spec.{Spec}
use Rattle.spec_schedules.specs.declared.kind.Kind.{Kind}
use Rattle.spec_classes.specs.declared.classes.OrderClass.{OrderClass}
use Rattle.spec_classes.specs.Classes.{ShowsAt, AreClassesOf, total_count}
use Rattle.spec_classes.proofs.Counts.{behind}
use Rattle.order_classes.specs.declared.shows.Shows.{Shows}
use Rattle.order_classes.specs.declared.rows.Letters.{Letters}
use Rattle.order_classes.specs.declared.letters.Filter.{Filter}
use Rattle.order_classes.specs.Asked.{Passes, pass_all}
use Rattle.order_classes.specs.Letters.{IsR}
use Rattle.order_classes.specs.Numbers.{RiseFrom}
use Rattle.order_classes.specs.Shows.{shows_of_line}
use Rattle.different_shows.proofs.Places.{at-among}
use Rattle.class_rows.specs.declared.passing.Passing.{Passing}
use Rattle.class_rows.specs.Pages.{AreLetters}
use Rattle.class_rows.specs.Telling.{AreAdded, ArePassing, count_of}

-- R is told in one way
pub r-same : (tables : List Table) (run : Spec) (s : Shows) (p q : Option Bool) → IsR tables run s p → IsR tables run s q → p ≡ q
r-same tables run s None None a b = refl
r-same tables run s None (Some q) a b = absurd (a b.0)
r-same tables run s (Some p) None a b = absurd (b a.0)
r-same tables run s (Some p) (Some q) a b = ap Some (same p q (λ h. b.1.1 (a.1.0 h)) (λ h. a.1.1 (b.1.0 h)))
  where
    same : (x y : Bool) → (x ≡ true → y ≡ true) → (y ≡ true → x ≡ true) → x ≡ y
    same true true f g = refl
    same true false f g = sym (f refl)
    same false true f g = g refl
    same false false f g = refl

pub passes-so : (tables : List Table) (run : Spec) (filters : List Filter) (s : Shows) (r : Option Bool) → IsR tables run s r
    → pass_all (unwrap_or r false) filters s ≡ true → Passes tables run filters s
passes-so tables run filters s r is h = (r, is, h)

pub passes-not : (tables : List Table) (run : Spec) (filters : List Filter) (s : Shows) (r : Option Bool) → IsR tables run s r
    → pass_all (unwrap_or r false) filters s ≡ false → Passes tables run filters s → ⊥
passes-not tables run filters s r is h x =
    let same : r ≡ x.0 = r-same tables run s r x.0 is x.1 in
    let yes : pass_all (unwrap_or r false) filters s ≡ true = ap (λ o. pass_all (unwrap_or o false) filters s) same ∙ x.2 in
    let bad : true ≡ false = sym yes ∙ h in
    cc

module _ (tables : List Table) (run : Spec) (filters : List Filter) where
  pub passing-each : (cs : List OrderClass) (ps : List Passing) → ArePassing tables run filters cs ps → (p : Passing) → Among p ps
      → Among p.class.now cs × Passes tables run filters p.class.now.shows × AreLetters tables run p.class.now.shows p.letters
  passing-each [] ps are p m = absurd (subst (Among p) are m)
  passing-each (c ∷ cs) ps (inl x) p m = at (λ n. passing-each cs x.1 x.6 p n) (subst (Among p) x.2 m)
    where
      at : (Among p x.1 → Among p.class.now cs × Passes tables run filters p.class.now.shows × AreLetters tables run p.class.now.shows p.letters)
          → Among p (x.0 ∷ x.1) → Among p.class.now (c ∷ cs) × Passes tables run filters p.class.now.shows × AreLetters tables run p.class.now.shows p.letters
      at rest (inl e) =
          let own : p.class.now ≡ c = ap (λ (q : Passing). q.class.now) e ∙ x.3 in (
            inl own,
            subst (λ (d : OrderClass). Passes tables run filters d.shows) (sym own) x.4,
            subst (λ (d : OrderClass). AreLetters tables run d.shows p.letters) (sym own)
                (subst (AreLetters tables run c.shows) (ap (λ (q : Passing). q.letters) (sym e)) x.5),
          )
      at rest (inr n) = let rec = rest n in (inr rec.0, rec.1, rec.2)
  passing-each (c ∷ cs) ps (inr x) p m = let rec = passing-each cs ps x.1 p m in (inr rec.0, rec.1, rec.2)

  pub passing-all : (cs : List OrderClass) (ps : List Passing) → ArePassing tables run filters cs ps → (c : OrderClass) → Among c cs
      → Passes tables run filters c.shows → (p : Passing) × Among p ps × (p.class.now ≡ c)
  passing-all [] ps are c m h = absurd m
  passing-all (d ∷ cs) ps (inl x) c (inl e) h = (x.0, subst (Among x.0) (sym x.2) (inl refl), x.3 ∙ sym e)
  passing-all (d ∷ cs) ps (inl x) c (inr m) h =
      let rec = passing-all cs x.1 x.6 c m h in
      (rec.0, subst (Among rec.0) (sym x.2) (inr rec.1), rec.2)
  passing-all (d ∷ cs) ps (inr x) c (inl e) h = absurd (x.0 (subst (λ (y : OrderClass). Passes tables run filters y.shows) e h))
  passing-all (d ∷ cs) ps (inr x) c (inr m) h = passing-all cs ps x.1 c m h

  pub passing-rise : (low high : ℕ) (cs : List OrderClass) (ps : List Passing) → ArePassing tables run filters cs ps → low ≤ high
      → RiseFrom high (map (λ (c : OrderClass). c.first) cs) → RiseFrom low (map (λ (p : Passing). p.class.now.first) ps)
  passing-rise low high [] ps are le rise = subst (λ qs. RiseFrom low (map (λ (p : Passing). p.class.now.first) qs)) (sym are) tt
  passing-rise low high (c ∷ cs) ps (inl x) le rise =
      let own : x.0.class.now.first ≡ c.first = ap (λ (d : OrderClass). d.first) x.3 in
      let first : high ≤ c.first = rise.0 in
      subst (λ qs. RiseFrom low (map (λ (p : Passing). p.class.now.first) qs)) (sym x.2)
      (omega (arith, le, own, first), passing-rise (suc x.0.class.now.first) (suc c.first) cs x.1 x.6 (omega (arith, own)) rise.1)
  passing-rise low high (c ∷ cs) ps (inr x) le rise =
      let first : high ≤ c.first = rise.0 in
      passing-rise low (suc c.first) cs ps x.1 (omega (arith, le, first)) rise.1

  pub passing-few : (cs : List OrderClass) (ps : List Passing) → ArePassing tables run filters cs ps → count_of ps ≤ total_count cs
  passing-few [] ps are = subst (λ qs. count_of qs ≤ 0) (sym are) (omega arith)
  passing-few (c ∷ cs) ps (inl x) =
      let rec = passing-few cs x.1 x.6 in
      let own : x.0.class.now.count ≡ c.count = ap (λ (d : OrderClass). d.count) x.3 in
      subst (λ qs. count_of qs ≤ total_count (c ∷ cs)) (sym x.2) (omega (arith, rec, own))
  passing-few (c ∷ cs) ps (inr x) = let rec = passing-few cs ps x.1 in omega (arith, rec)

-- where R is told of what is shown, and where not
r-told : (tables : List Table) (run : Spec) (s : Shows) (l : Letters) → AreLetters tables run s l → (l.not_serial ≡ None) ↔ (run.lines ≢ [])
r-told tables run s l x = at x.0 x.1 (ap (λ (k : Letters). k.not_serial) x.2)
  where
    at : (r : Option Bool) → IsR tables run s r → l.not_serial ≡ r → (l.not_serial ≡ None) ↔ (run.lines ≢ [])
    at None is e = (λ h. is, λ h. e)
    at (Some b) is e = (λ h. absurd (let bad : None ≡ Some b = sym h ∙ e in cc), λ h. absurd (h is.0))

pub passing-added : (kind : Kind) (tables : List Table) (run : Spec) (filters : List Filter) (cs : List OrderClass) (ps : List Passing)
    → AreClassesOf kind tables run cs → ArePassing tables run filters cs ps → AreAdded kind tables run ps
passing-added kind tables run filters cs ps are passing = record {
  each = λ p m. (let x = passing-each tables run filters cs ps passing p m in are.each p.class.now x.0);
  told = λ p m. (let x = passing-each tables run filters cs ps passing p m in r-told tables run p.class.now.shows p.letters x.2);
  rise = passing-rise tables run filters 0 0 cs ps passing (omega arith) are.rise;
  alone = λ rank s t x y.
      (let same : x.0 ≡ y.0 = are.alone rank x.0 y.0 x.1 y.1 in
      let both : Some s ≡ Some t = sym x.2 ∙ ap (shows_of_line tables run) same ∙ y.2 in
      cc);
  few = (let few = passing-few tables run filters cs ps passing in let all = are.few in omega (arith, few, all));
}

-- ---- one class more of those that are looked at

module _ (tables : List Table) (run : Spec) (filters : List Filter) where
  drop-at : (cs : List OrderClass) (i : ℕ) (c : OrderClass) → slice_get cs i ≡ Some c → drop i cs ≡ c ∷ drop (suc i) cs
  drop-at [] i c e = absurd (let h : None ≡ Some c = e in cc)
  drop-at (d ∷ cs) zero c e = let h : Some d ≡ Some c = e in let same : d ≡ c = cc in ap (λ x. x ∷ cs) same
  drop-at (d ∷ cs) (suc i) c e = drop-at cs i c e

  push-on : (ps : List Passing) (p : Passing) (rest : List Passing) → (ps ++ p ∷ []) ++ rest ≡ ps ++ p ∷ rest
  push-on [] p rest = refl
  push-on (q ∷ ps) p rest = ap (λ xs. q ∷ xs) (push-on ps p rest)

  -- what passes of the classes from a place on, put behind these, passes of all
  abbrev pub GoesOn : List OrderClass → ℕ → List Passing → Type 0
  GoesOn cs i ps = (rest : List Passing) → ArePassing tables run filters (drop i cs) rest → ArePassing tables run filters cs (ps ++ rest)

  pub one-passes : (cs : List OrderClass) (i : ℕ) (c : OrderClass) (ps : List Passing) (p : Passing) → slice_get cs i ≡ Some c → GoesOn cs i ps
      → p.class.now ≡ c → Passes tables run filters c.shows → AreLetters tables run c.shows p.letters → GoesOn cs (suc i) (ps ++ p ∷ [])
  one-passes cs i c ps p at on own passes letters rest are =
      subst (ArePassing tables run filters cs) (sym (push-on ps p rest))
      (on (p ∷ rest) (subst (λ ds. ArePassing tables run filters ds (p ∷ rest)) (sym (drop-at cs i c at)) (inl (p, rest, refl, own, passes, letters, are))))

  pub one-more : (cs : List OrderClass) (i : ℕ) (c : OrderClass) (ps : List Passing) (p : Passing) (items : List Passing) → items ≡ ps ++ p ∷ []
      → slice_get cs i ≡ Some c → GoesOn cs i ps → p.class.now ≡ c → Passes tables run filters c.shows → AreLetters tables run c.shows p.letters
      → GoesOn cs (suc i) items
  one-more cs i c ps p items is at on own passes letters =
      subst (GoesOn cs (suc i)) (sym is) (one-passes cs i c ps p at on own passes letters)

  pub none-passes : (cs : List OrderClass) (i : ℕ) (c : OrderClass) (ps : List Passing) → slice_get cs i ≡ Some c → GoesOn cs i ps
      → (Passes tables run filters c.shows → ⊥) → GoesOn cs (suc i) ps
  none-passes cs i c ps at on not rest are =
      on rest (subst (λ ds. ArePassing tables run filters ds rest) (sym (drop-at cs i c at)) (inr (not, are)))

  pub all-pass : (cs : List OrderClass) (i : ℕ) (ps : List Passing) → GoesOn cs i ps → drop i cs ≡ [] → ArePassing tables run filters cs ps
  all-pass cs i ps on none =
      subst (ArePassing tables run filters cs) (nothing ps)
      (on [] (subst (λ ds. ArePassing tables run filters ds []) (sym none) refl))
    where
      nothing : (qs : List Passing) → qs ++ [] ≡ qs
      nothing [] = refl
      nothing (q ∷ qs) = ap (λ xs. q ∷ xs) (nothing qs)

pub drop-all : {A : Type 0} (xs : List A) (i : ℕ) → length xs ≤ i → drop i xs ≡ []
drop-all [] zero le = refl
drop-all [] (suc i) le = refl
drop-all (x ∷ xs) zero le = absurd (omega (arith, le))
drop-all (x ∷ xs) (suc i) le = drop-all xs i (omega (arith, le))

-- ---- along the classes

-- the first so many count so many, with the next one more
pub count-next : (ps : List Passing) (i : ℕ) (p : Passing) → slice_get ps i ≡ Some p → count_of (take (suc i) ps) ≡ count_of (take i ps) + p.class.now.count
count-next [] i p e = absurd (let h : None ≡ Some p = e in cc)
count-next (q ∷ ps) zero p e =
    let h : Some q ≡ Some p = e in
    let same : q ≡ p = cc in
    let own : q.class.now.count ≡ p.class.now.count = ap (λ (x : Passing). x.class.now.count) same in
    omega (arith, own)
count-next (q ∷ ps) (suc i) p e = let rec = count-next ps i p e in omega (arith, rec)

pub count-front : (ps : List Passing) (i : ℕ) (p : Passing) → slice_get ps i ≡ Some p → count_of (take i ps) + p.class.now.count ≤ count_of ps
count-front [] i p e = absurd (let h : None ≡ Some p = e in cc)
count-front (q ∷ ps) zero p e =
    let h : Some q ≡ Some p = e in
    let same : q ≡ p = cc in
    let own : q.class.now.count ≡ p.class.now.count = ap (λ (x : Passing). x.class.now.count) same in
    omega (arith, own)
count-front (q ∷ ps) (suc i) p e = let rec = count-front ps i p e in omega (arith, rec)

-- those before one begin before it
pub rise-before : (low : ℕ) (ps : List Passing) (i : ℕ) (p q : Passing) → RiseFrom low (map (λ (x : Passing). x.class.now.first) ps) → slice_get ps i ≡ Some p → Among q (take i ps)
    → q.class.now.first < p.class.now.first
rise-before low [] i p q rise e m = absurd (let h : None ≡ Some p = e in cc)
rise-before low (x ∷ ps) zero p q rise e m = absurd m
rise-before low (x ∷ ps) (suc i) p q rise e (inl same) =
    let le = behind (λ (y : Passing). y.class.now.first) (suc x.class.now.first) ps p rise.1 (at-among ps i p e) in
    subst (λ (y : Passing). y.class.now.first < p.class.now.first) (sym same) (omega (arith, le))
rise-before low (x ∷ ps) (suc i) p q rise e (inr m) = rise-before (suc x.class.now.first) ps i p q rise.1 e m

pub take-has : (ps : List Passing) (i : ℕ) (q : Passing) → Among q (take i ps) → Among q ps
take-has [] zero q m = absurd m
take-has [] (suc i) q m = absurd m
take-has (x ∷ ps) zero q m = absurd m
take-has (x ∷ ps) (suc i) q (inl e) = inl e
take-has (x ∷ ps) (suc i) q (inr m) = inr (take-has ps i q m)

-- no rank has orders of two classes of which one begins before the other
pub classes-apart : (kind : Kind) (tables : List Table) (run : Spec) (ps : List Passing) → AreAdded kind tables run ps → (p q : Passing) → Among p ps → Among q ps
    → q.class.now.first < p.class.now.first → (rank : ℕ) → ShowsAt kind tables run rank q.class.now.shows → ShowsAt kind tables run rank p.class.now.shows → ⊥
classes-apart kind tables run ps are p q m n lt rank x y =
    let same : q.class.now.shows ≡ p.class.now.shows = are.alone rank q.class.now.shows p.class.now.shows x y in
    let own = (are.each p m).first in
    let other = (are.each q n).first in
    let le : p.class.now.first ≤ q.class.now.first =
    own.least q.class.now.first (subst (ShowsAt kind tables run q.class.now.first) same other.is_so) in
    omega (arith, lt, le)
