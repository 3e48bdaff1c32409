-- The search for a ring: where nothing is left to pass, each session that waits and can be reached is reached.
use Rattle.std.specs.Prelude.{◌≡◌, ◌≢◌, refl, ℕ, zero, suc, ◌<◌, Bool, true, false, ◌==◌, ◌&&◌, ◌||◌, List, [], ◌∷◌, length, set, ◌++◌}
use Rattle.std.proofs.Common.{sym, ap, ◌∙◌, subst, arith, ⊎_elim, replicate}
use Rattle.std.specs.List.{list_any}
use Rattle.std.proofs.lemmas.Bool.{and_from, and_parts, both_ways, cases_eq, or_cases, or_left, or_right}
use Rattle.std.proofs.lemmas.List.{length-replicate}
use Rattle.lock_queues.specs.declared.wait.Wait.{Wait}
use Rattle.lock_queues.specs.Locks.{Look, Spot, holds_up, spots_from, waits_now}
use Rattle.lock_queues.specs.Search.{IsOpen, marks}
use Rattle.lock_queues.specs.Sound.{Way, one, more}
use Rattle.marked_locks.specs.declared.wait.NumberedWait.{NumberedWait}

-- ---- flags

pub marks-blank : (n b : ℕ) → marks (replicate n false) b ≡ false
marks-blank zero b = refl
marks-blank (suc n) zero = refl
marks-blank (suc n) (suc b) = marks-blank n b

pub marks-set : (flags : List Bool) (n : ℕ) → n < length flags → marks (set flags n true) n ≡ true
marks-set [] n lt = absurd (omega arith)
marks-set (f ∷ fs) zero lt = refl
marks-set (f ∷ fs) (suc n) lt = marks-set fs n (omega arith)

pub marks-other : (flags : List Bool) (n b : ℕ) → b ≢ n → marks (set flags n true) b ≡ marks flags b
marks-other [] n b ne = refl
marks-other (f ∷ fs) zero zero ne = absurd (ne refl)
marks-other (f ∷ fs) zero (suc b) ne = refl
marks-other (f ∷ fs) (suc n) zero ne = refl
marks-other (f ∷ fs) (suc n) (suc b) ne = marks-other fs n b (λ e. ne (ap suc e))

-- how many flags are not set
abbrev pub unset : List Bool → ℕ
unset [] = 0
unset (true ∷ fs) = unset fs
unset (false ∷ fs) = suc (unset fs)

pub fewer-left : (flags : List Bool) (n : ℕ) → n < length flags → marks flags n ≡ false → unset (set flags n true) < unset flags
fewer-left [] n lt e = absurd (omega arith)
fewer-left (true ∷ fs) zero lt e = cc
fewer-left (false ∷ fs) zero lt e = omega arith
fewer-left (true ∷ fs) (suc n) lt e = fewer-left fs n (omega arith) e
fewer-left (false ∷ fs) (suc n) lt e = let r = fewer-left fs n (omega arith) e in omega arith

-- ---- marking

abbrev pub is_among : List NumberedWait → ℕ → Bool
is_among ws b = list_any (λ (w : NumberedWait). w.session == b) ws

-- the sessions of these waits that have an edge from one session are marked
abbrev pub Marked : List NumberedWait → (ℕ → Bool) → (ℕ → Bool) → (ℕ → Bool) → Type 0
Marked ws edge old new = (b : ℕ) → new b ≡ (old b || (is_among ws b && edge b))

-- ---- the search

way-on : (edge : ℕ → ℕ → Bool) (a c b : ℕ) → Way edge a c → edge c b ≡ true → Way edge a b
way-on edge a c b (one e) f = more e (one f)
way-on edge a c b (more e v) f = more e (way-on edge _ c b v f)

-- what is reached can be reached from i, which is passed, and whoever is passed has reached each that waits and that it waits for
pub record Searched (edge : ℕ → ℕ → Bool) (ws : List NumberedWait) (i : ℕ) (reached passed : ℕ → Bool) : Type 0 where
  pub sound : (b : ℕ) → reached b ≡ true → Way edge i b
  pub started : passed i ≡ true
  pub closed : (a : ℕ) → passed a ≡ true → (b : ℕ) → is_among ws b ≡ true → edge a b ≡ true → reached b ≡ true

module _ (edge : ℕ → ℕ → Bool) (ws : List NumberedWait) (i : ℕ) where
  pub searched-first : (n : ℕ) (reached : ℕ → Bool) → i < n → Marked ws (edge i) (marks (replicate n false)) reached
      → Searched edge ws i reached (marks (set (replicate n false) i true))
  searched-first n reached lt m = record {
    sound = λ b e. ⊎_elim (λ h. absurd (both_ways _ (marks-blank n b) h)) (λ h. one (and_parts (is_among ws b) _ h).1)
        (or_cases (marks (replicate n false) b) _ (sym (m b) ∙ e));
    started = marks-set (replicate n false) i (subst (λ k. i < k) (sym (length-replicate n false)) lt);
    closed = λ a e b now f. ⊎_elim (λ same. m b ∙ or_right _ _ (and_from _ _ now (subst (λ x. edge x b ≡ true) same f)))
        (λ ne. absurd (both_ways _ (marks-other (replicate n false) i a ne ∙ marks-blank n a) e)) (cases_eq a i);
  }

  pub searched-more : (flags : List Bool) (c : ℕ) (reached new : ℕ → Bool) → c < length flags → Searched edge ws i reached (marks flags)
      → IsOpen reached (marks flags) c → Marked ws (edge c) reached new → Searched edge ws i new (marks (set flags c true))
  searched-more flags c reached new lt s next m = record {
    sound = λ b e. ⊎_elim (s.sound b) (λ h. way-on edge i c b (s.sound c next.is_reached) (and_parts (is_among ws b) _ h).1)
        (or_cases (reached b) _ (sym (m b) ∙ e));
    started = ⊎_elim (λ e. subst (λ x. marks (set flags c true) x ≡ true) (sym e) (marks-set flags c lt))
        (λ ne. marks-other flags c i ne ∙ s.started) (cases_eq i c);
    closed = λ a e b now f. ⊎_elim (λ same. m b ∙ or_right (reached b) _ (and_from _ _ now (subst (λ x. edge x b ≡ true) same f)))
        (λ ne. m b ∙ or_left _ _ (s.closed a (sym (marks-other flags c a ne) ∙ e) b now f)) (cases_eq a c);
  }

  module _ (starts : (a b : ℕ) → edge a b ≡ true → is_among ws a ≡ true) where
    starts-way : (a b : ℕ) → Way edge a b → is_among ws a ≡ true
    starts-way a b (one e) = starts a b e
    starts-way a b (more {c = c} e v) = starts a c e

    reaches : (reached passed : ℕ → Bool) → Searched edge ws i reached passed
        → ((b : ℕ) → is_among ws b ≡ true → reached b ≡ true → passed b ≡ true) → (a b : ℕ) → passed a ≡ true → is_among ws b ≡ true
        → Way edge a b → reached b ≡ true
    reaches reached passed s all a b p now (one e) = s.closed a p b now e
    reaches reached passed s all a b p now (more {c = c} e v) =
        let waits = starts-way c b v in
        reaches reached passed s all c b (all c waits (s.closed a p c waits e)) now v

    -- where no session is open, i is reached if it waits for itself
    pub searched-all : (reached passed : ℕ → Bool) → Searched edge ws i reached passed
        → ((b : ℕ) → is_among ws b ≡ true → reached b ≡ true → passed b ≡ true) → Way edge i i → reached i ≡ true
    searched-all reached passed s all v = reaches reached passed s all i i s.started (starts-way i i v) v

-- who has an edge waits
pub edge-waits : (look : Look) (a b : ℕ) (before after : List Wait)
    → list_any (λ (s : Spot). (s.wait.session == a) && holds_up look s b) (spots_from before after) ≡ true → waits_now after a ≡ true
edge-waits look a b before [] e = cc
edge-waits look a b before (w ∷ after) e =
    ⊎_elim (λ h. or_left _ _ (and_parts (w.session == a) _ h).0) (λ h. or_right (w.session == a) _ (edge-waits look a b (before ++ w ∷ []) after h))
    (or_cases ((w.session == a) && holds_up look (record { before = before; wait = w; after = after }) b) _ e)
