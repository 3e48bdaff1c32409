-- What is kept behind each change.
use Rattle.std.specs.Prelude.{◌≡◌, refl, ℕ, suc, false, List, [], ◌∷◌, ◌++◌, get_or, take, drop, Some, None, Result, Ok, Err, OnErr, OnOk}
use Rattle.std.proofs.Common.{sym, ap, ◌∙◌, subst, ⊎_elim}
use Rattle.std.specs.declared.alloc.AllocError.{AllocError}
use Rattle.std.specs.List.{AllZip, position, remove}
use Rattle.std.proofs.lemmas.List.{map-append}
use Rattle.std.proofs.lemmas.List.Elements.{All-append, All-drop, All-nil, All-push, All-take}
use Rattle.finite_maps.specs.Map.{Map, get, insert}
use Rattle.lock_modes.specs.declared.mode.Mode.{Mode}
use Rattle.lock_modes.specs.declared.resource.Resource.{Resource}
use Rattle.lock_queues.specs.declared.answer.Answer.TheVariants.{Waits}
use Rattle.lock_queues.specs.declared.answer.Taken.TheVariants as at_once
use Rattle.lock_queues.specs.Laws.{StaysSound}
use Rattle.lock_queues.specs.Locks.{Spot, waits_for, waits_now, wanted_by}
use Rattle.lock_queues.specs.LockTable.{Holding, Locks, grant, holding_order, let_go, look_at, taken}
use Rattle.lock_queues.specs.Rules.{IsAnswer, IsNext, IsNextOf, MayHave}
use Rattle.lock_queues.specs.Sound.{HeldTogether, IsSound, Way, more, one}
use Rattle.marked_lists.specs.Versions.{Versions}
use Rattle.numbered_specs.specs.Numbers.{resource_of}
use Rattle.marked_modes.specs.Held.{MarkedHolds, TakesSome}
use Rattle.marked_locks.specs.Queued.{MarkedTable, locks_of, table_of, wait_of, waits_of}
use Rattle.marked_locks.specs.Kept.{AreKnown, IsKept, IsKeptAt, IsKnown}
use Rattle.marked_locks.specs.Places.{no_wait}
use Rattle.marked_locks.specs.declared.wait.NumberedWait.{NumberedWait}
use Rattle.marked_locks.proofs.TableLemmas.{changed, gone-none, gone-waiting, granted-held, granted-next, is_of_session, keep_others, table_with}

-- each wait stays known where one comes behind them, goes, or all go
known-pushed : (rs : List Resource) (ws : List NumberedWait) (w : NumberedWait) → AreKnown rs ws → IsKnown rs w → AreKnown rs (ws ++ w ∷ [])
known-pushed rs ws w known is = record { rise = known.rise; each = All-push (IsKnown rs) ws w known.each is }

known-removed : (rs : List Resource) (ws : List NumberedWait) (k : ℕ) → AreKnown rs ws → AreKnown rs (remove ws k)
known-removed rs ws k known = record {
  rise = known.rise;
  each = All-append (IsKnown rs) (take k ws) (drop (suc k) ws) (All-take (IsKnown rs) k ws known.each) (All-drop (IsKnown rs) (suc k) ws known.each);
}

known-none : (rs : List Resource) (ws : List NumberedWait) → AreKnown rs ws → AreKnown rs []
known-none rs ws known = record { rise = known.rise; each = All-nil (IsKnown rs) }

-- a table in which nobody waits is sound
none-sound : (held : Map holding_order Mode) → HeldTogether (look_at held) → IsSound (record { held = held; waits = [] })
none-sound held together = record { together = together; distinct = tt; no_ring = λ c way. nowhere c c way }
  where
    nowhere : (a b : ℕ) → Way (waits_for (look_at held) []) a b → ⊥
    nowhere a b (one e) = cc
    nowhere a b (more e way) = cc

-- what some was taken from goes together
some-together : (s : ℕ) (old now : Map holding_order Mode) → TakesSome s old now → HeldTogether (look_at old) → HeldTogether (look_at now)
some-together s old now some together c d r m n ne p q = together c d r m n ne (was (c, r) m p) (was (d, r) n q)
  where
    none-some : (x : Mode) → None ≡ Some x → ⊥
    none-some x e = cc

    was : (h : Holding) (x : Mode) → get now h ≡ Some x → get old h ≡ Some x
    was h x e = ⊎_elim (λ same. sym same ∙ e) (λ gone. absurd (none-some x (sym gone.1 ∙ e))) (some h)

-- behind a change that leaves the resources and the marks
kept-changed : (modes now : MarkedHolds) (waits left : Versions NumberedWait) → IsKept modes waits → now.resources ≡ modes.resources
    → now.marked ≡ modes.marked → left.marked ≡ waits.marked → AreKnown modes.resources left.list → IsSound (table_of now left).now → IsKept now left
kept-changed modes now waits left kept rs marked lists known sound = record {
  now = record { known = subst (λ r. AreKnown r left.list) (sym rs) known; sound = sound };
  marked = subst (λ r. AllZip (IsKeptAt r) now.marked left.marked) (sym rs)
      (subst (λ m. AllZip (IsKeptAt modes.resources) m left.marked) (sym marked)
      (subst (AllZip (IsKeptAt modes.resources) modes.marked) (sym lists) kept.marked));
}

-- where nobody waits any more
none-kept : (modes now : MarkedHolds) (waits left : Versions NumberedWait) → IsKept modes waits → now.resources ≡ modes.resources
    → now.marked ≡ modes.marked → left ≡ record waits { list = [] } → HeldTogether (look_at now.now) → IsKept now left
none-kept modes now waits left kept rs marked none together =
    kept-changed modes now waits left kept rs marked (ap (λ (v : Versions NumberedWait). v.marked) none)
    (subst (λ (v : Versions NumberedWait). AreKnown modes.resources v.list) (sym none) (known-none modes.resources waits.list kept.now.known))
    (subst (λ (v : Versions NumberedWait). IsSound (locks_of now.resources now.now v.list)) (sym none) (none-sound now.now together))

-- of a session some was taken, and nobody waits any more
pub refused-kept : (modes now : MarkedHolds) (waits left : Versions NumberedWait) (i : ℕ) → IsKept modes waits → now.resources ≡ modes.resources
    → now.marked ≡ modes.marked → left ≡ record waits { list = [] } → TakesSome i modes.now now.now → IsKept now left
refused-kept modes now waits left i kept rs marked none some =
    none-kept modes now waits left kept rs marked none (some-together i modes.now now.now some kept.now.sound.together)

-- the wait at a place is taken out, or all are gone
removal-kept : (modes now : MarkedHolds) (waits left : Versions NumberedWait) (k : ℕ) (locks : Locks) (result : Result (Unit {0}) AllocError)
    → IsKept modes waits → now.resources ≡ modes.resources → now.marked ≡ modes.marked → now.now ≡ locks.held → IsSound locks
    → OnOk result (left ≡ record waits { list = remove waits.list k }) → OnErr result (left ≡ record waits { list = [] })
    → OnOk result (table_of now left ≡ table_with (table_of modes waits) locks) → IsKept now left
removal-kept modes now waits left k locks (Ok u) kept rs marked held sound removed refused table =
    kept-changed modes now waits left kept rs marked (ap (λ (v : Versions NumberedWait). v.marked) removed)
    (subst (λ (v : Versions NumberedWait). AreKnown modes.resources v.list) (sym removed) (known-removed modes.resources waits.list k kept.now.known))
    (subst (λ (t : MarkedTable). IsSound t.now) (sym table) sound)
removal-kept modes now waits left k locks (Err e) kept rs marked held sound removed refused table =
    none-kept modes now waits left kept rs marked refused (subst (λ h. HeldTogether (look_at h)) (sym held) sound.together)

module _ (law : StaysSound) (modes now : MarkedHolds) (waits : Versions NumberedWait) (kept : IsKept modes waits) where
  abbrev old : Locks
  old = (table_of modes waits).now

  -- a session lets go
  module _ (i : ℕ) (taken-is : now ≡ record modes { now = keep_others i modes.now }) where
    pub gone-none-kept : position (is_of_session i) waits.list ≡ None → IsKept now waits
    gone-none-kept e =
        kept-changed modes now waits waits kept (ap (λ (m : MarkedHolds). m.resources) taken-is) (ap (λ (m : MarkedHolds). m.marked) taken-is) refl
        kept.now.known
        (subst (λ (t : MarkedTable). IsSound t.now) (sym (gone-none modes now waits i taken-is e)) (law.gone old i kept.now.sound))

    pub gone-kept : (left : Versions NumberedWait) (k : ℕ) (result : Result (Unit {0}) AllocError) → position (is_of_session i) waits.list ≡ Some k
        → OnOk result (left ≡ record waits { list = remove waits.list k }) → OnErr result (left ≡ record waits { list = [] }) → IsKept now left
    gone-kept left k result at removed refused =
        removal-kept modes now waits left k (let_go old i) result kept (ap (λ (m : MarkedHolds). m.resources) taken-is)
        (ap (λ (m : MarkedHolds). m.marked) taken-is) (ap (λ (m : MarkedHolds). m.now) taken-is) (law.gone old i kept.now.sound) removed refused
        (gone-waiting modes now waits i taken-is left k result kept at removed)

  -- a session gets a mode that it may have
  pub taken-kept : (i : ℕ) (r : Resource) (m : Mode) → now ≡ record modes { now = (taken old i r m).held } → waits_now old.waits i ≡ false → MayHave old i r m
      → IsKept now waits
  taken-kept i r m given-is free had =
      kept-changed modes now waits waits kept (ap (λ (m : MarkedHolds). m.resources) given-is) (ap (λ (m : MarkedHolds). m.marked) given-is) refl
      kept.now.known
      (subst (λ (t : MarkedTable). IsSound t.now)
      (sym (changed modes now waits waits (taken old i r m).held (waits_of modes.resources waits.list) given-is refl refl))
      (law.taken old i r m at_once.Granted kept.now.sound free had))

-- a session waits
pub pushed-kept : (law : StaysSound) (modes : MarkedHolds) (waits longer : Versions NumberedWait) (w : NumberedWait) → IsKept modes waits
    → longer ≡ record waits { list = waits.list ++ w ∷ [] } → IsKnown modes.resources w → waits_now (waits_of modes.resources waits.list) w.session ≡ false
    → IsAnswer (table_of modes waits).now w.session (resource_of modes.resources w.resource) w.mode Waits → IsKept modes longer
pushed-kept law modes waits longer w kept pushed known free answer =
    kept-changed modes modes waits longer kept refl refl (ap (λ (v : Versions NumberedWait). v.marked) pushed)
    (subst (λ (v : Versions NumberedWait). AreKnown modes.resources v.list) (sym pushed)
    (known-pushed modes.resources waits.list w kept.now.known known))
    (subst (λ us. IsSound (record { held = modes.now; waits = us }))
    (sym (ap (λ (v : Versions NumberedWait). waits_of modes.resources v.list) pushed ∙ map-append (wait_of modes.resources) waits.list (w ∷ [])))
    (law.asked (table_of modes waits).now w.session (resource_of modes.resources w.resource) w.mode Waits kept.now.sound free answer))

-- the next wait is granted
pub granted-kept : (law : StaysSound) (modes now : MarkedHolds) (waits left : Versions NumberedWait) (i k : ℕ) (m : Mode) (w : NumberedWait)
    (result : Result (Unit {0}) AllocError) → IsKept modes waits → position (is_of_session i) waits.list ≡ Some k → get_or waits.list k no_wait ≡ w
    → m ≡ wanted_by (look_at modes.now) (wait_of modes.resources w)
    → now ≡ record modes { now = insert modes.now (i, resource_of modes.resources w.resource) m } → IsNextOf (table_of modes waits).now i
    → OnOk result (left ≡ record waits { list = remove waits.list k }) → OnErr result (left ≡ record waits { list = [] }) → IsKept now left
granted-kept law modes now waits left i k m w result kept at there wanted-is given-is of removed refused =
    removal-kept modes now waits left k (grant (table_of modes waits).now of.0) result kept (ap (λ (h : MarkedHolds). h.resources) given-is)
    (ap (λ (h : MarkedHolds). h.marked) given-is) (granted-held modes now waits i k m w kept at there wanted-is given-is of)
    (law.granted (table_of modes waits).now of.0 kept.now.sound of.1) removed refused
    (for-one result (granted-next modes now waits i k m w kept at there wanted-is given-is left result of removed))
  where
    for-one : (result : Result (Unit {0}) AllocError)
        → OnOk result ((s : Spot) → IsNext (table_of modes waits).now s
        → table_of now left ≡ table_with (table_of modes waits) (grant (table_of modes waits).now s))
        → OnOk result (table_of now left ≡ table_with (table_of modes waits) (grant (table_of modes waits).now of.0))
    for-one (Ok u) each = each of.0 of.1
    for-one (Err e) each = tt
