-- Marking the sessions that the waits of one session wait for, spot by spot.
use Rattle.std.proofs.Common.{◌≡◌, sym, ◌∙◌, subst, ℕ, ◌+◌, ◌<◌, Bool, true, ◌&&◌, ◌||◌, ◌==◌, List, [], length, ◌⊎◌, inr, ⊎_elim, arith}
use Rattle.std.proofs.lemmas.Bool.{or_cases, or_left, or_right}
use Rattle.lock_queues.specs.Locks.{Wait, Spot, Look, holds_up, waits_for, waits_now}
use Rattle.lock_queues.specs.Queue.{spot_marks}
use Rattle.lock_queues.specs.Rules.{IsSpot}
use Rattle.lock_queues.specs.Search.{Marks}
use Rattle.lock_queues.proofs.Ahead.{marks-sound, marks-all}
use Rattle.lock_queues.proofs.Spots.{any-spot, passes-at, same-spot, spot-within}

-- the spots below k are passed
pub record MarkedTo (look : Look) (waits : List Wait) (a k : ℕ) (old new : ℕ → Bool) : Type 0 where
  pub kept : (b : ℕ) → old b ≡ true → new b ≡ true
  pub sound : (b : ℕ) → new b ≡ true → (old b ≡ true) ⊎ (waits_for look waits a b ≡ true)
  pub so_far : (s : Spot) → IsSpot waits s → length s.before < k → (b : ℕ) → waits_now waits b ≡ true → ((s.wait.session == a) && holds_up look s b)
      ≡ true → new b ≡ true

pub marked-more : (look : Look) (waits : List Wait) (a k : ℕ) (old mid new : ℕ → Bool) (t : Spot) → MarkedTo look waits a k old mid → IsSpot waits t
    → length t.before ≡ k → ((b : ℕ) → new b ≡ (mid b || spot_marks look t a b))
    → MarkedTo look waits a (k + 1) old new
marked-more look waits a k old mid new t m there place is = record {
  kept = λ b e. is b ∙ or_left _ _ (m.kept b e);
  sound = λ b e. ⊎_elim (m.sound b)
      (λ h. inr (passes-at (λ (s : Spot). (s.wait.session == a) && holds_up look s b) waits t there (marks-sound look b t a h)))
      (or_cases (mid b) _ (sym (is b) ∙ e));
  so_far = λ s p lt b now e.
      let at : (length s.before < k) ⊎ (length s.before ≡ k) = grind arith in
      ⊎_elim (λ l. is b ∙ or_left _ _ (m.so_far s p l b now e))
      (λ q. let same : s ≡ t = same-spot waits s t p there (q ∙ sym place) in
      is b ∙ or_right (mid b) _ (marks-all look b t a (subst (λ ws. waits_now ws b
      ≡ true) (sym there) now) (subst (λ u. ((u.wait.session == a) && holds_up look u b) ≡ true) same e))) at;
}

pub marked-all : (look : Look) (waits : List Wait) (a : ℕ) (old new : ℕ → Bool) → MarkedTo look waits a (length waits) old new → Marks look waits a old new
marked-all look waits a old new m = record {
  kept = m.kept;
  sound = m.sound;
  marked = λ b now e. let r = any-spot (λ (s : Spot). (s.wait.session == a) && holds_up look s b) [] waits e in
      m.so_far r.0 r.1.0 (spot-within waits r.0 r.1.0) b now r.1.1;
}
