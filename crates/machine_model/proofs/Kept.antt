-- What a session that goes keeps.
use Rattle.std.proofs.Common.{◌≡◌, refl, sym, ap, ◌∙◌, subst, ℕ, suc, ◌<◌, ◌≤◌, Bool, true, false, cond, List, [], ◌∷◌, length, Option, Some, ◌⊎◌, inl, inr}
use Rattle.std.proofs.Common.{⊎_elim, arith}
use Rattle.finite_maps.specs.Map.{same_key, same_key-true, get, insert, get-insert, empty, get-empty}
use Rattle.lock_modes.specs.RowPlace.{place_order}
use Rattle.lock_modes.specs.Rows.{Rows', Write}
use Rattle.lock_modes.specs.Resource.{resource_order}
use Rattle.lock_queues.specs.Locks.{fits, wanted, may_have, closes_ring}
use Rattle.bound_statements.specs.Levels.{is_unlocked, asked as asked_by}
use Rattle.bound_statements.specs.Plan.{Tuple, Request, request, plan}
use Rattle.bound_statements.proofs.LevelLemmas.{asked-locked}
use Rattle.statement_evaluation.proofs.LevelEffects.{unlocked-writes}
use Rattle.row_tables.specs.Overlay.{Overlay, written}
use Rattle.statement_evaluation.specs.Effect.{Effect, Gives, Faults, effect}
use Rattle.machine_model.specs.Session.{Task, Ask, Do, Session, Held, Performed, Goes, Fails, Kind, Begins, Commits, RollsBack, Works, kind, perform}
use Rattle.machine_model.specs.Session.{perform_by, worked}
use Rattle.machine_model.specs.Go.{Scene, Run, replied, taking, go, stopped, failed, finished_by, is_broken, held_up, look_with, waiting_with}
use Rattle.machine_model.specs.declared.reply.Reply.TheVariants.{Had, Waits, Refused}
use Rattle.machine_model.specs.Claims.{may_write, claims_of}
use Rattle.machine_model.specs.Sound.{HoldsAll, Backed, UnderLocks}
use Rattle.lock_modes.specs.declared.mode.Mode.{Mode}
use Rattle.events.specs.declared.event.Fault.{Fault}
use Rattle.events.specs.declared.event.Fault.TheVariants.{Aborted, Deadlock, Unavailable}
use Rattle.lock_modes.specs.declared.resource.Resource.{Resource}
use Rattle.machine_model.specs.declared.status.Status.{Status}
use Rattle.machine_model.specs.declared.status.Status.TheVariants.{Outside, InBlock, Broken}
use Rattle.bound_statements.specs.declared.statement.Bound.{Bound}
use Rattle.machine_model.proofs.Looks.{writable}
use Rattle.machine_model.proofs.Basics.{both_true}
use Rattle.statement_evaluation.proofs.ListLemmas.{Each}
use Rattle.machine_model.specs.Footprint.{HeldFits}
use Rattle.machine_model.proofs.Solo.{OnGoes, held-fits-empty, perform-held}
use Rattle.machine_model.proofs.Footprint.{OverlayUnder-written}
use Rattle.statement_evaluation.proofs.WriteLemmas.{OnGives}
use Rattle.machine_model.proofs.Effects.{effect-writable, on-gives-map}
use Rattle.machine_model.proofs.Stronger.{stronger-taking, under-stronger, holds-stronger, covers-taking, holds-plan, writable-can, can-may}

pub under-empty : (h : Held) → UnderLocks empty h
under-empty h p x e = absurd (let k = sym (get-empty place_order (Option Tuple) p) ∙ e in cc)

-- ---- one statement

under-written : (o : Overlay) (h : Held) (ws : List Write) → Each (λ w. may_write (claims_of h []) w.place ≡ true) ws → UnderLocks o h
    → UnderLocks (written ws o) h
under-written o h ws each under p x e = (OverlayUnder-written (claims_of h []) ws o each (record { each = under })).each p x e

-- where nothing is written, whatever is written lies under locks
no-writes : (P : Write → Type 0) (e : Effect) → OnGives e (λ ws. ws ≡ []) → OnGives e (Each P)
no-writes P (Gives events ws) h = subst (Each P) (sym h) tt
no-writes P (Faults f) h = tt

-- a statement writes where what it asked for lets it write; one that asks for nothing of its plan writes nothing
effect-under : (h : Held) (st : Bound) (rows : Rows') → HoldsAll h (asked_by st)
    → OnGives (effect st rows) (Each (λ w. may_write (claims_of h []) w.place ≡ true))
effect-under h st rows holds = by (is_unlocked st) refl
  where
    by : (b : Bool) → is_unlocked st ≡ b → OnGives (effect st rows) (Each (λ w. may_write (claims_of h []) w.place ≡ true))
    by true is = no-writes (λ w. may_write (claims_of h []) w.place ≡ true) (effect st rows) (unlocked-writes st rows is)
    by false is =
        let all : HoldsAll h (plan st) = subst (HoldsAll h) (asked-locked st is) holds in
        on-gives-map (λ w. writable (plan st) w.place ≡ true) (λ w. may_write (claims_of h []) w.place ≡ true)
        (λ w e. can-may h w.place (writable-can h (plan st) w.place all e)) (effect st rows) (effect-writable st rows)

worked-under : (s : Session) (rows : Rows') (e : Effect) → OnGives e (Each (λ w. may_write (claims_of s.held []) w.place ≡ true)) → UnderLocks s.overlay s.held
    → OnGoes (worked s rows e) (λ s2 rows2. UnderLocks s2.overlay s2.held)
worked-under s rows (Gives events writes) each under = under-written s.overlay s.held writes each under
worked-under s rows (Faults f) each under = tt

pub perform_by-under : (status : Status) (k : Kind) (s : Session) (rows : Rows') (st : Bound) → HoldsAll s.held (asked_by st) → UnderLocks s.overlay s.held
    → OnGoes (perform_by status k s rows st) (λ s2 rows2. UnderLocks s2.overlay s2.held)
perform_by-under Outside (Begins level) s rows st holds under = under
perform_by-under (InBlock of) (Begins level) s rows st holds under = under
perform_by-under Broken (Begins level) s rows st holds under = tt
perform_by-under Outside Commits s rows st holds under = under-empty empty
perform_by-under (InBlock of) Commits s rows st holds under = under-empty empty
perform_by-under Broken Commits s rows st holds under = under-empty empty
perform_by-under Outside RollsBack s rows st holds under = under-empty empty
perform_by-under (InBlock of) RollsBack s rows st holds under = under-empty empty
perform_by-under Broken RollsBack s rows st holds under = under-empty empty
perform_by-under Outside Works s rows st holds under = worked-under s rows _ (effect-under s.held st _ holds) under
perform_by-under (InBlock of) Works s rows st holds under = worked-under s rows _ (effect-under s.held st _ holds) under
perform_by-under Broken Works s rows st holds under = tt

-- ---- a run

-- the run stops at a wait, with less left to do than n
pub record Pending (e : Scene) (i n : ℕ) (r : Run) : Type 0 where
  pub resource : Resource
  pub mode : Mode
  pub waits : r.waits ≡ waiting_with e i resource mode
  pub have : List Request
  pub holds : HoldsAll r.session.held have
  pub backed : Backed (request resource mode ∷ have) r.session.rest
  pub shorter : length r.session.rest < n
  pub ringless : closes_ring e.count (look_with e i r.session.held) (waiting_with e i resource mode) i ≡ false

pub record GoodRun (e : Scene) (i n : ℕ) (r : Run) : Type 0 where
  pub fits : HeldFits e i r.session.held
  pub under : UnderLocks r.session.overlay r.session.held
  pub ends : (r.waits ≡ e.waits) ⊎ Pending e i n r

good-failed : (e : Scene) (i n : ℕ) (s : Session) (rows : Rows') (f : Fault) → GoodRun e i n (stopped e (failed s rows f))
good-failed e i n s rows f = record { fits = held-fits-empty e i; under = under-empty empty; ends = inl refl }

good-finished : (e : Scene) (i n : ℕ) (status : Status) (s : Session) (rows : Rows') → HeldFits e i s.held → UnderLocks s.overlay s.held
    → GoodRun e i n (stopped e (finished_by status s rows))
good-finished e i n Outside s rows fits under = record { fits = held-fits-empty e i; under = under-empty empty; ends = inl refl }
good-finished e i n (InBlock of) s rows fits under = record { fits = fits; under = under; ends = inl refl }
good-finished e i n Broken s rows fits under = record { fits = fits; under = under; ends = inl refl }

good-held_up : (e : Scene) (i n : ℕ) (s : Session) (rows : Rows') (r : Resource) (m : Mode) (ts : List Task) (have : List Request) → HeldFits e i s.held
    → UnderLocks s.overlay s.held → HoldsAll s.held have → Backed (request r m ∷ have) ts → length ts < n
    → closes_ring e.count (look_with e i s.held) (waiting_with e i r m) i ≡ false → GoodRun e i n (held_up e i s rows r m ts)
good-held_up e i n s rows r m ts have fits under holds backed shorter is =
    record {
      fits = fits;
      under = under;
      ends =
          inr (record { resource = r; mode = m; waits = refl; have = have; holds = holds; backed = backed; shorter = shorter; ringless = is });
    }

pub longer : (e : Scene) (i n k : ℕ) (r : Run) → n ≤ k → GoodRun e i n r → GoodRun e i k r
longer e i n k r le g = record {
  fits = g.fits;
  under = g.under;
  ends = ⊎_elim (λ x. inl x) (λ p. inr (record {
    resource = p.resource;
    mode = p.mode;
    waits = p.waits;
    have = p.have;
    holds = p.holds;
    backed = p.backed;
    shorter = (let a : length r.session.rest < n = p.shorter in omega arith);
    ringless = p.ringless;
  })) g.ends;
}

-- a mode that fits is held from now on
pub fits-inserted : (e : Scene) (i : ℕ) (h : Held) (r : Resource) (x : Mode) → fits e.count e.look i r x ≡ true → HeldFits e i h → HeldFits e i (insert h r x)
fits-inserted e i h r x new p = record { each = λ q n is. at q n (same_key resource_order q r) refl is }
  where
    at : (q : Resource) (n : Mode) (b : Bool) → same_key resource_order q r ≡ b → get (insert h r x) q ≡ Some n → fits e.count e.look i q n ≡ true
    at q n true same is =
        let w : Some x ≡ Some n = ap (λ b. cond b (Some x) (get h q)) (sym same) ∙ sym (get-insert h r x q) ∙ is in
        let v : x ≡ n = cc in
        subst (λ y. fits e.count e.look i q y ≡ true) v (subst (λ y. fits e.count e.look i y x ≡ true) (sym (same_key-true resource_order q r same)) new)
    at q n false same is = p.each q n (ap (λ b. cond b (Some x) (get h q)) (sym same) ∙ sym (get-insert h r x q) ∙ is)

fits-taking : (e : Scene) (i : ℕ) (s : Session) (r : Resource) (m : Mode) → may_have e.count e.look e.waits i (get s.held r) r m ≡ true → HeldFits e i s.held
    → HeldFits e i (taking s r m).held
fits-taking e i s r m had p = fits-inserted e i s.held r (wanted (get s.held r) m) (both_true (fits e.count e.look i r (wanted (get s.held r) m)) _ had).0 p

pub go-good : (e : Scene) (i : ℕ) (s : Session) (rows : Rows') (ts : List Task) (have : List Request) → HeldFits e i s.held → UnderLocks s.overlay s.held
    → HoldsAll s.held have → Backed have ts → GoodRun e i (length ts) (go e i s rows ts)
go-good e i s rows [] have fits under holds backed = good-finished e i 0 s.status s rows fits under
go-good e i s rows (Ask n r m ∷ ts) have fits under holds backed =
    asked (is_broken s.status) (may_have e.count e.look e.waits i (get s.held r) r m) n (closes_ring e.count (look_with e i s.held) (waiting_with e i r m) i) refl
    refl
    (λ h. longer e i (length ts) (suc (length ts)) _ (omega arith)
    (go-good e i (taking s r m) rows ts (request r m ∷ have) (fits-taking e i s r m h fits)
    (under-stronger s.overlay s.held _ (stronger-taking s.held r m) under) (
      covers-taking s.held r m,
      holds-stronger s.held _ (stronger-taking s.held r m) have holds,
    ) backed))
  where
    asked : (b h n c : Bool) → may_have e.count e.look e.waits i (get s.held r) r m ≡ h → closes_ring e.count (look_with e i s.held) (waiting_with e i r m) i ≡ c
        → (may_have e.count e.look e.waits i (get s.held r) r m ≡ true → GoodRun e i (suc (length ts)) (go e i (taking s r m) rows ts))
        → GoodRun e i (suc (length ts)) (elim b [
          | true ↦ stopped e (failed s rows Aborted)
          | false ↦ elim (replied h n c)
              [ Had ↦ go e i (taking s r m) rows ts | Waits ↦ held_up e i s rows r m ts | Refused f ↦ stopped e (failed s rows f) ]
        ])
    asked true h n c is k rec = good-failed e i _ s rows Aborted
    asked false true n c is k rec = rec is
    asked false false true c is k rec = good-failed e i _ s rows Unavailable
    asked false false false true is k rec = good-failed e i _ s rows Deadlock
    asked false false false false is k rec = good-held_up e i _ s rows r m ts have fits under holds backed (omega arith) k
go-good e i s rows (Do st ∷ ts) have fits under holds backed =
    done (perform s rows st) (perform-held (HeldFits e i) (held-fits-empty e i) s rows st fits)
    (perform_by-under s.status (kind st) s rows st (holds-plan s.held have (asked_by st) holds backed.0) under)
    (λ s2 rows2 f u. longer e i (length ts) (suc (length ts)) _ (omega arith) (go-good e i s2 rows2 ts [] f u tt backed.1))
  where
    done : (d : Performed) → OnGoes d (λ s2 rows2. HeldFits e i s2.held) → OnGoes d (λ s2 rows2. UnderLocks s2.overlay s2.held)
        → ((s2 : Session) (rows2 : Rows') → HeldFits e i s2.held → UnderLocks s2.overlay s2.held → GoodRun e i (suc (length ts)) (go e i s2 rows2 ts))
        → GoodRun e i (suc (length ts)) (elim d [ Goes s2 rows2 ↦ go e i s2 rows2 ts | Fails f ↦ stopped e (failed s rows f) ])
    done (Goes s2 rows2) f u rec = rec s2 rows2 f u
    done (Fails fault) f u rec = good-failed e i _ s rows fault
