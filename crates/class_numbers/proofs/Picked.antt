-- The counts of some of the classes of ranks, added up, are the number of the ranks of these.
use Rattle.std.proofs.Common.{◌≡◌, ◌↔◌, refl, ap, subst, ℕ, suc, ◌+◌, ◌<◌, Bool, true, false, cond, List, [], ◌∷◌, map, All, ◌⊎◌, inl, inr, ⊎_elim, arith}
use Rattle.std.proofs.lemmas.List.Elements.{All-cons, All-nil}
use Rattle.std.specs.List.{AllZip}
use Rattle.lock_queues.specs.Reasons.{Among}
use Rattle.class_stretches.specs.Classes.{AreGroups, Class, IsClass, in_runs}
use Rattle.order_classes.specs.Numbers.{IsNumberOf, RiseFrom}
use Rattle.class_stretches.proofs.Counted.{class-number}
use Rattle.spec_classes.proofs.Counts.{behind, number-none, number-same, number-sum}

-- of each item of a list the test is so exactly where it is so of the class
abbrev pub Tells : {A : Type 0} → (Class A → Type 0) → Class A → Bool → Type 0
Tells Picks c b = (b ≡ true) ↔ Picks c

-- the counts of the classes that are picked
abbrev pub total : {A : Type 0} → List (Class A) → List Bool → ℕ
total [] bs = 0
total (c ∷ cs) [] = 0
total (c ∷ cs) (b ∷ bs) = cond b c.count 0 + total cs bs

-- the rank is in a class that is picked
abbrev pub InPicked : {A : Type 0} → (Class A → Type 0) → List (Class A) → ℕ → Type 0
InPicked {A} Picks cs r = (c : Class A) × Among c cs × Picks c × (in_runs c.runs r ≡ true)

pub zip-map : {A B C : Type 0} (R : A → B → Type 0) (S : A → C → Type 0) (f : B → C) → ((x : A) (y : B) → R x y → S x (f y)) → (xs : List A) (ys : List B)
    → AllZip R xs ys → AllZip S xs (map f ys)
zip-map R S f g [] [] z = tt
zip-map R S f g [] (y ∷ ys) z = absurd z
zip-map R S f g (x ∷ xs) [] z = absurd z
zip-map R S f g (x ∷ xs) (y ∷ ys) z = (g x y z.0, zip-map R S f g xs ys z.1)

-- what is so of each item of a list, by its class, is so of all
pub zip-all : {A B : Type 0} (R : A → B → Type 0) (P : B → Type 0) (xs : List A) (ys : List B) → ((x : A) (y : B) → Among x xs → R x y → P y)
    → AllZip R xs ys → All P ys
zip-all R P [] [] f z = All-nil P
zip-all R P [] (y ∷ ys) f z = absurd z
zip-all R P (x ∷ xs) [] f z = absurd z
zip-all R P (x ∷ xs) (y ∷ ys) f z = All-cons P y ys (f x y (inl refl) z.0) (zip-all R P xs ys (λ a b m. f a b (inr m)) z.1)

module _ {A : Type 0} (show : ℕ → A → Type 0) (first end : ℕ) (one : (r : ℕ) (a b : A) → r < end → show r a → show r b → a ≡ b) where
  -- no rank is in two
  pub apart : (cs : List (Class A)) → AreGroups show first end cs → (c d : Class A) → Among c cs → Among d cs → (r : ℕ)
      → in_runs c.runs r ≡ true → in_runs d.runs r ≡ true → c ≡ d
  apart cs are c d m n r h k =
      let w = (are.each c m).within r h in
      are.between c d m n (one r c.shows d.shows w.1 w.2 ((are.each d n).within r k).2)

  picked : (Picks : Class A → Type 0) (low : ℕ) (cs : List (Class A)) (bs : List Bool) → ((c : Class A) → Among c cs → IsClass show first end c)
      → ((c d : Class A) → Among c cs → Among d cs → (r : ℕ) → in_runs c.runs r ≡ true → in_runs d.runs r ≡ true → c ≡ d)
      → RiseFrom low (map (λ (c : Class A). c.least) cs) → AllZip (Tells Picks) cs bs → IsNumberOf (InPicked Picks cs) (total cs bs)
  picked Picks low [] [] each alone rise tells = number-none (InPicked Picks []) (λ r p. p.1)
  picked Picks low [] (b ∷ bs) each alone rise tells = absurd tells
  picked Picks low (c ∷ cs) [] each alone rise tells = absurd tells
  picked Picks low (c ∷ cs) (b ∷ bs) each alone rise tells =
      at b tells.0 (picked Picks (suc c.least) cs bs (λ d m. each d (inr m)) (λ d e m n. alone d e (inr m) (inr n)) rise.1 tells.1)
    where
      at : (t : Bool) → Tells Picks c t → IsNumberOf (InPicked Picks cs) (total cs bs) → IsNumberOf (InPicked Picks (c ∷ cs)) (cond t c.count 0 + total cs bs)
      at true is rec =
          number-same (λ r. (in_runs c.runs r ≡ true) ⊎ InPicked Picks cs r) (InPicked Picks (c ∷ cs)) (c.count + total cs bs)
          (λ r p. ⊎_elim (λ h. (c, inl refl, is.0 refl, h)) (λ q. (q.0, inr q.1, q.2, q.3)) p)
          (λ r p. back r p.0 p.1 p.2 p.3)
          (number-sum (λ r. in_runs c.runs r ≡ true) (InPicked Picks cs) c.count (total cs bs)
          (class-number show first end c (each c (inl refl))) rec
          (λ r h q.
          let same : c ≡ q.0 = alone c q.0 (inl refl) (inr q.1) r h q.3 in
          let lt = behind (λ (x : Class A). x.least) (suc c.least) cs q.0 rise.1 q.1 in
          let least : c.least ≡ q.0.least = ap (λ (x : Class A). x.least) same in
          omega (arith, lt, least)))
        where
          back : (r : ℕ) (d : Class A) → Among d (c ∷ cs) → Picks d → in_runs d.runs r ≡ true → (in_runs c.runs r ≡ true) ⊎ InPicked Picks cs r
          back r d (inl e) p h = inl (subst (λ (x : Class A). in_runs x.runs r ≡ true) e h)
          back r d (inr m) p h = inr (d, m, p, h)
      at false is rec =
          subst (IsNumberOf (InPicked Picks (c ∷ cs))) (omega arith)
          (number-same (InPicked Picks cs) (InPicked Picks (c ∷ cs)) (total cs bs)
          (λ r q. (q.0, inr q.1, q.2, q.3)) (λ r p. back r p.0 p.1 p.2 p.3) rec)
        where
          back : (r : ℕ) (d : Class A) → Among d (c ∷ cs) → Picks d → in_runs d.runs r ≡ true → InPicked Picks cs r
          back r d (inl e) p h = absurd (let bad : false ≡ true = is.1 (subst Picks e p) in cc)
          back r d (inr m) p h = (d, m, p, h)

  -- where lists tell which groups are picked
  pub groups-number : (Picks : Class A → Type 0) (cs : List (Class A)) (bs : List Bool) → AreGroups show first end cs → AllZip (Tells Picks) cs bs
      → IsNumberOf (InPicked Picks cs) (total cs bs)
  groups-number Picks cs bs are tells = picked Picks 0 cs bs are.each (apart cs are) are.rise tells
