-- The search for a ring: where nothing is left to pass, each session that waits and can be reached is reached.
use Rattle.std.proofs.Common.{◌≡◌, ◌≢◌, refl, sym, ap, ◌∙◌, subst, ℕ, zero, suc, ◌<◌, Bool, true, false, List, [], ◌∷◌, length, set, replicate, ⊎_elim, arith}
use Rattle.std.proofs.lemmas.List.{length-replicate}
use Rattle.std.proofs.lemmas.Bool.{both_ways, cases_eq}
use Rattle.lock_queues.specs.Locks.{Wait, Look, waits_for, waits_now}
use Rattle.lock_queues.specs.Search.{Marks, marks, AllPassed, IsOpen}
use Rattle.lock_queues.specs.Sound.{Way, one, more}
use Rattle.lock_queues.proofs.Spots.{edge-waits}

-- ---- flags

pub marks-blank : (n b : ℕ) → marks (replicate n false) b ≡ false
marks-blank zero b = refl
marks-blank (suc n) zero = refl
marks-blank (suc n) (suc b) = marks-blank n b

pub marks-set : (flags : List Bool) (n : ℕ) → n < length flags → marks (set flags n true) n ≡ true
marks-set [] n lt = absurd (omega arith)
marks-set (f ∷ fs) zero lt = refl
marks-set (f ∷ fs) (suc n) lt = marks-set fs n (omega arith)

pub marks-other : (flags : List Bool) (n b : ℕ) → b ≢ n → marks (set flags n true) b ≡ marks flags b
marks-other [] n b ne = refl
marks-other (f ∷ fs) zero zero ne = absurd (ne refl)
marks-other (f ∷ fs) zero (suc b) ne = refl
marks-other (f ∷ fs) (suc n) zero ne = refl
marks-other (f ∷ fs) (suc n) (suc b) ne = marks-other fs n b (λ e. ne (ap suc e))

-- how many flags are not set
abbrev pub unset : List Bool → ℕ
unset [] = 0
unset (true ∷ fs) = unset fs
unset (false ∷ fs) = suc (unset fs)

pub fewer-left : (flags : List Bool) (n : ℕ) → n < length flags → marks flags n ≡ false → unset (set flags n true) < unset flags
fewer-left [] n lt e = absurd (omega arith)
fewer-left (true ∷ fs) zero lt e = cc
fewer-left (false ∷ fs) zero lt e = omega arith
fewer-left (true ∷ fs) (suc n) lt e = fewer-left fs n (omega arith) e
fewer-left (false ∷ fs) (suc n) lt e = let r = fewer-left fs n (omega arith) e in omega arith

-- ---- the search

way-on : (edge : ℕ → ℕ → Bool) (a c b : ℕ) → Way edge a c → edge c b ≡ true → Way edge a b
way-on edge a c b (one e) f = more e (one f)
way-on edge a c b (more e v) f = more e (way-on edge _ c b v f)

-- what is reached can be reached from i, which is passed, and whoever is passed has reached each that waits and that it waits for
pub record Searched (edge : ℕ → ℕ → Bool) (waits : List Wait) (i : ℕ) (reached passed : ℕ → Bool) : Type 0 where
  pub sound : (b : ℕ) → reached b ≡ true → Way edge i b
  pub started : passed i ≡ true
  pub closed : (a : ℕ) → passed a ≡ true → (b : ℕ) → waits_now waits b ≡ true → edge a b ≡ true → reached b ≡ true

module _ (look : Look) (waits : List Wait) (i : ℕ) where
  abbrev edge : ℕ → ℕ → Bool
  edge = waits_for look waits

  pub searched-first : (n : ℕ) (reached : ℕ → Bool) → i < n → Marks look waits i (marks (replicate n false)) reached
      → Searched edge waits i reached (marks (set (replicate n false) i true))
  searched-first n reached lt m = record {
    sound = λ b e. ⊎_elim (λ h. absurd (both_ways _ (marks-blank n b) h)) one (m.sound b e);
    started = marks-set (replicate n false) i (subst (λ k. i < k) (sym (length-replicate n false)) lt);
    closed = λ a e b now f. ⊎_elim (λ same. m.marked b now (subst (λ x. edge x b
        ≡ true) same f)) (λ ne. absurd (both_ways _ (marks-other (replicate n false) i a ne ∙ marks-blank n a) e)) (cases_eq a i);
  }

  pub searched-more : (flags : List Bool) (c : ℕ) (reached new : ℕ → Bool) → c < length flags → Searched edge waits i reached (marks flags)
      → IsOpen reached (marks flags) c → Marks look waits c reached new
      → Searched edge waits i new (marks (set flags c true))
  searched-more flags c reached new lt s next m = record {
    sound = λ b e. ⊎_elim (s.sound b) (way-on edge i c b (s.sound c next.is_reached)) (m.sound b e);
    started = ⊎_elim (λ e. subst (λ x. marks (set flags c true) x ≡ true) (sym e) (marks-set flags c lt)) (λ ne. marks-other flags c i ne
        ∙ s.started) (cases_eq i c);
    closed = λ a e b now f. ⊎_elim (λ same. m.marked b now (subst (λ x. edge x b
        ≡ true) same f)) (λ ne. m.kept b (s.closed a (sym (marks-other flags c a ne) ∙ e) b now f)) (cases_eq a c);
  }

  reaches : (reached passed : ℕ → Bool) → Searched edge waits i reached passed → AllPassed waits reached passed → (a b : ℕ) → passed a ≡ true
      → waits_now waits b ≡ true → Way edge a b → reached b ≡ true
  reaches reached passed s all a b p now (one e) = s.closed a p b now e
  reaches reached passed s all a b p now (more {c = c} e v) =
      let waits_c = starts c b v in
      reaches reached passed s all c b (all c waits_c (s.closed a p c waits_c e)) now v
    where
      starts : (x y : ℕ) → Way edge x y → waits_now waits x ≡ true
      starts x y (one f) = edge-waits look waits x y f
      starts x y (more {c = z} f u) = edge-waits look waits x z f

  starts-way : (a b : ℕ) → Way edge a b → waits_now waits a ≡ true
  starts-way a b (one e) = edge-waits look waits a b e
  starts-way a b (more {c = c} e v) = edge-waits look waits a c e

  -- where no session is open, i is reached if it waits for itself
  pub searched-all : (reached passed : ℕ → Bool) → Searched edge waits i reached passed → AllPassed waits reached passed → Way edge i i → reached i ≡ true
  searched-all reached passed s all v = reaches reached passed s all i i s.started (starts-way i i v) v
