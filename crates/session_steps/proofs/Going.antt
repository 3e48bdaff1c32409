-- What a session that goes is answered and may read, by the store and the lock table.
use Rattle.std.proofs.Common.{◌≡◌, ◌≢◌, refl, sym, ap, ◌∙◌, subst, ℕ, zero, suc, Bool, true, false, cond, ◌&&◌, ◌||◌, ◌==◌, List, [], ◌∷◌, ◌++◌, Option, Some}
use Rattle.std.proofs.Common.{None, is_some, ◌⊎◌, inl, inr, ⊎_elim, eqb-true, eq-eqb}
use Rattle.finite_maps.specs.Map.{get}
use Rattle.lock_modes.specs.Mode.{compatible, AtLeast}
use Rattle.lock_modes.specs.declared.mode.Mode.{Mode}
use Rattle.lock_modes.specs.declared.resource.Resource.{Resource}
use Rattle.lock_modes.proofs.ModeLaws.{compatible-cover}
use Rattle.lock_queues.specs.Locks.{Look, fits, fits_with, wanted, all_below, nobody_waits, may_have, closes_ring, answered}
use Rattle.lock_queues.specs.LockTable.{Locks, Asked, AskedNow, look_in, queued, taken, ask, ask_now, slice}
use Rattle.lock_queues.specs.Rules.{MayHave, IsAnswer}
use Rattle.lock_queues.specs.declared.answer.Answer.{Answer}
use Rattle.lock_queues.specs.declared.answer.Answer.TheVariants.{Granted, Waits, Ring}
use Rattle.lock_queues.proofs.Bounded.{tests-decide}
use Rattle.lock_queues.proofs.Slices.{get-slice}
use Rattle.bound_statements.specs.Plan.{Tuple, Request, plan}
use Rattle.bound_statements.specs.declared.statement.Bound.{Bound}
use Rattle.row_tables.specs.Layers.{Layers, overlay_of}
use Rattle.statement_execution.specs.Run.{SeesAlone}
use Rattle.machine_model.specs.Session.{Held, Session}
use Rattle.machine_model.specs.Go.{Scene, replied, reply_in, look_with, waiting_with}
use Rattle.machine_model.specs.declared.reply.Reply.{Reply}
use Rattle.machine_model.specs.declared.reply.Reply.TheVariants as reply
use Rattle.events.specs.declared.event.Fault.TheVariants.{Deadlock, Unavailable}
use Rattle.lock_queues.specs.declared.answer.Taken.TheVariants as at_once
use Rattle.session_steps.specs.Going.{IsScene, IsReply}
use Rattle.machine_model.specs.Claims.{claims_of}
use Rattle.machine_model.specs.Sound.{HeldTogether, UnderLocks, HoldsAll}
use Rattle.machine_model.proofs.Basics.{both_true, or_true_left, not_both, cases-eq}
use Rattle.statement_evaluation.proofs.ListLemmas.{Each}
use Rattle.machine_model.proofs.Claiming.{claims-asked, claims-cases}
use Rattle.machine_model.proofs.Effects.{Friends, reads-off}
use Rattle.machine_model.proofs.Looks.{looked-opened}
use Rattle.machine_model.proofs.Stronger.{held-claim}

-- ---- a request

all_below-same : (n : ℕ) (f g : ℕ → Bool) → ((c : ℕ) → f c ≡ g c) → all_below n f ≡ all_below n g
all_below-same zero f g h = refl
all_below-same (suc n) f g h = λ k. h n k && all_below-same n f g h k

-- whether a mode fits is up to the others
pub fits-others : (n : ℕ) (a b : Look) (i : ℕ) (r : Resource) (m : Mode) → ((c : ℕ) → c ≢ i → a c r ≡ b c r) → fits n a i r m ≡ fits n b i r m
fits-others n a b i r m same = all_below-same n _ _ (λ c. ⊎_elim (λ e. or_true_left (c == i) _ (eq-eqb c i e)
    ∙ sym (or_true_left (c == i) _ (eq-eqb c i e))) (λ ne. ap (λ o. (c == i) || fits_with m o) (same c ne)) (cases-eq c i))

had-is : (n h c : Bool) → answered h c ≡ Granted → replied h n c ≡ reply.Had
had-is n true c is = refl
had-is n false true is = cc
had-is n false false is = cc

waits-is : (h c : Bool) → answered h c ≡ Waits → replied h false c ≡ reply.Waits
waits-is true c is = cc
waits-is false true is = cc
waits-is false false is = refl

ring-refused : (h c : Bool) → answered h c ≡ Ring → replied h false c ≡ reply.Refused Deadlock
ring-refused true c is = cc
ring-refused false true is = refl
ring-refused false false is = cc

now-refused : (h c : Bool) → h ≡ false → replied h true c ≡ reply.Refused Unavailable
now-refused true c is = cc
now-refused false c is = refl

-- what is refused at once may not be had
by-answer : (h : Bool) (u t : Locks) → (let y : AskedNow = elim h [
  | true ↦ record { answer = at_once.Granted; locks = u }
  | false ↦ record { answer = at_once.Refused; locks = t }
] in y.answer) ≡ at_once.Refused → h ≡ false
by-answer true u t is = cc
by-answer false u t is = refl

module _ (e : Scene) (i : ℕ) (t : Locks) (s : Session) (held : s.held ≡ slice i t.held) (scene : IsScene e i t) where
  own : (r : Resource) → get s.held r ≡ look_in t i r
  own r = ap (λ h. get h r) held ∙ get-slice i t.held r

  pub look-now : look_with e i s.held ≡ look_in t
  look-now = λ k c r. at c r (c == i) refl k
    where
      at : (c : ℕ) (r : Resource) (b : Bool) → (c == i) ≡ b → look_with e i s.held c r ≡ look_in t c r
      at c r true is = ap (λ b. cond b (get s.held r) (e.look c r)) is ∙ own r ∙ ap (λ d. look_in t d r) (sym (eqb-true c i is))
      at c r false is = ap (λ b. cond b (get s.held r) (e.look c r)) is ∙ sym (scene.others c r (λ k. not_both _ (eq-eqb c i k) is))

  may-is : (r : Resource) (m : Mode) → may_have e.count e.look e.waits i (get s.held r) r m ≡ may_have e.count (look_in t) t.waits i (look_in t i r) r m
  may-is r m =
      ap (λ o. may_have e.count e.look e.waits i o r m) (own r)
      ∙ ap (λ b. b && (is_some (look_in t i r) || nobody_waits e.waits r))
      (fits-others e.count e.look (look_in t) i r (wanted (look_in t i r) m) (λ c ne. sym (scene.others c r ne)))
      ∙ ap (λ ws. fits e.count (look_in t) i r (wanted (look_in t i r) m) && (is_some (look_in t i r) || nobody_waits ws r)) (sym scene.waits)

  pub ring-is : (r : Resource) (m : Mode) → closes_ring e.count (look_with e i s.held) (waiting_with e i r m) i
      ≡ closes_ring e.count (look_in t) (queued t i r m).waits i
  ring-is r m = λ k. closes_ring e.count (look-now k) (sym scene.waits k ++ record { session = i; resource = r; mode = m } ∷ []) i

  asked-is : (r : Resource) (m : Mode) (x : Answer)
      → answered (may_have e.count (look_in t) t.waits i (look_in t i r) r m) (closes_ring e.count (look_in t) (queued t i r m).waits i) ≡ x
      → (ask e.count t i r m).answer ≡ x
  asked-is r m Granted is = ap (λ (a : Answer). let y : Asked =
      elim a [
        | Granted ↦ record { answer = Granted; locks = Rattle.lock_queues.specs.LockTable.taken t i r m }
        | Waits ↦ record {
          answer = Waits;
          locks = queued t i r m;
        }
        | Ring ↦ record { answer = Ring; locks = t }
      ] in y.answer) is
  asked-is r m Waits is = ap (λ (a : Answer). let y : Asked =
      elim a [
        | Granted ↦ record { answer = Granted; locks = Rattle.lock_queues.specs.LockTable.taken t i r m }
        | Waits ↦ record {
          answer = Waits;
          locks = queued t i r m;
        }
        | Ring ↦ record { answer = Ring; locks = t }
      ] in y.answer) is
  asked-is r m Ring is = ap (λ (a : Answer). let y : Asked =
      elim a [
        | Granted ↦ record { answer = Granted; locks = Rattle.lock_queues.specs.LockTable.taken t i r m }
        | Waits ↦ record {
          answer = Waits;
          locks = queued t i r m;
        }
        | Ring ↦ record { answer = Ring; locks = t }
      ] in y.answer) is

  -- what the table answers is what the tests of the machine tell
  answer-is : (r : Resource) (m : Mode) (a : Answer) → IsAnswer t i r m a
      → answered (may_have e.count e.look e.waits i (get s.held r) r m) (closes_ring e.count (look_with e i s.held) (waiting_with e i r m) i) ≡ a
  answer-is r m a is =
      (λ k. answered (may-is r m k) (ring-is r m k))
      ∙ sym (asked-is r m (answered (may_have e.count (look_in t) t.waits i (look_in t i r) r m) (closes_ring e.count (look_in t) (queued t i r m).waits i))
      refl)
      ∙ ap (λ (x : Asked). x.answer) ((tests-decide e.count t scene.below).asked i r m a scene.known is)

  -- what a request gets of the table is what it gets in the machine
  pub reply-is : (r : Resource) (m : Mode) (n : Bool) (a : Reply) → IsReply t i r m n a → reply_in e i s n r m ≡ a
  reply-is r m n reply.Had is = had-is n _ _ (answer-is r m Granted is)
  reply-is r m false reply.Waits is = waits-is _ _ (answer-is r m Waits is.1)
  reply-is r m true reply.Waits is = absurd (let no = is.0 in cc)
  reply-is r m false (reply.Refused f) is = ring-refused _ _ (answer-is r m Ring is.1) ∙ ap reply.Refused (sym is.0)
  reply-is r m true (reply.Refused f) is = now-refused _ _ (may-is r m ∙ may-not r m (taken-is r m is.1)) ∙ ap reply.Refused (sym is.0)
    where
      taken-is : (r : Resource) (m : Mode) → ¬ (MayHave t i r m)
          → ask_now e.count t i r m ≡ record { answer = at_once.Refused; locks = t }
      taken-is r m never = (tests-decide e.count t scene.below).taken i r m at_once.Refused never

      may-not : (r : Resource) (m : Mode) → ask_now e.count t i r m ≡ record { answer = at_once.Refused; locks = t }
          → may_have e.count (look_in t) t.waits i (look_in t i r) r m ≡ false
      may-not r m is = by-answer (may_have e.count (look_in t) t.waits i (look_in t i r) r m) (taken t i r m) t (ap (λ (x : AskedNow). x.answer) is)

-- ---- a statement

-- what fits beside a mode fits beside a weaker one
weaker-fits : (n m k : Mode) → AtLeast n m → compatible n k ≡ true → compatible m k ≡ true
weaker-fits n m k least fit = (both_true (compatible n k) _ (sym (compatible-cover n m k) ∙ ap (λ x. compatible x k) least ∙ fit)).1

-- the requests, each held or more
held-asked : (h : Held) (qs : List Request) → HoldsAll h qs → Each (λ q. Rattle.machine_model.specs.Sound.Covers (get h q.resource) q.mode) qs
held-asked h [] holds = tt
held-asked h (q ∷ qs) holds = (holds.0, held-asked h qs holds.1)

-- what a session holds and asks for stands beside what another holds
friends-held : (look : Look) (i c : ℕ) (h k : Held) (qs : List Request) → HeldTogether look → i ≢ c → ((r : Resource) → get h r ≡ look i r)
    → ((r : Resource) → get k r ≡ look c r) → HoldsAll h qs → Friends (claims_of h qs) (claims_of k [])
friends-held look i c h k qs together ne ours theirs holds =
    record {
      fit = λ r m n x y. at r m n (sym (theirs r) ∙ held-claim k r n y)
          (claims-cases (λ q. Rattle.machine_model.specs.Sound.Covers (get h q.resource) q.mode) h qs r m (held-asked h qs holds) x);
    }
  where
    at : (r : Resource) (m n : Mode) → look c r ≡ Some n → (get h r ≡ Some m)
        ⊎ ((q : Request) × Rattle.machine_model.specs.Sound.Covers (get h q.resource) q.mode × (q.resource ≡ r) × (q.mode ≡ m)) → compatible m n ≡ true
    at r m n held (inl is) = together i c r m n ne (sym (ours r) ∙ is) held
    at r m n held (inr q) =
        let covers : get h r ≡ Some q.1.0 = ap (get h) (sym q.2) ∙ q.1.1 in
        weaker-fits q.1.0 m n (subst (AtLeast q.1.0) q.3 q.1.2) (together i c r q.1.0 n ne (sym (ours r) ∙ covers) held)

none-there : (o : Option (Option Tuple)) → ((x : Option Tuple) → o ≡ Some x → ⊥) → o ≡ None
none-there None f = refl
none-there (Some x) f = absurd (f x refl)

-- a session that holds what a statement asks for sees alone what the statement looks at
pub sees-alone : (i : ℕ) (st : Bound) (l : Layers) (t : Locks) → HeldTogether (look_in t) → ((c : ℕ) → c ≢ i → UnderLocks (overlay_of c l) (slice c t.held))
    → HoldsAll (slice i t.held) (plan st) → SeesAlone i st l
sees-alone i st l t together under holds = λ p looks c ne.
    let friends = friends-held (look_in t) i c (slice i t.held) (slice c t.held) (plan st) together (λ e. ne (sym e)) (get-slice i t.held) (get-slice c t.held)
    holds in
    let off = (reads-off (claims_of (slice i t.held) (plan st)) (claims_of (slice c t.held) []) friends st (claims-asked (slice i t.held) (plan st))).each p
    (looked-opened st p looks) in
    none-there (get (overlay_of c l) p) (λ x is. not_both _ (under c ne p x is) off)
