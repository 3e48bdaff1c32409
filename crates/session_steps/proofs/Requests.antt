-- The requests of a statement, one after another.
use Rattle.std.specs.List.{slice_get}
use Rattle.std.proofs.lemmas.List.{drop_all}
use Rattle.std.proofs.lemmas.Option.{slice_get_cases}
use Rattle.std.proofs.Common.{◌≡◌, refl, sym, arith, true, ◌∙◌, subst, ℕ, ◌+◌, ◌<◌, ◌≤◌, false, List, [], ◌∷◌, length, drop, drop-cons, add-one, Some, None, ◌⊎◌, inl}
use Rattle.std.proofs.Common.{inr}
use Rattle.lock_queues.specs.LockTable.{Locks, taken, slice}
use Rattle.bound_statements.specs.Levels.{is_unlocked, asked}
use Rattle.bound_statements.specs.Plan.{Request, plan, nowait}
use Rattle.bound_statements.proofs.LevelLemmas.{asked-locked, asked-unlocked}
use Rattle.bound_statements.specs.declared.statement.Bound.{Bound}
use Rattle.machine_model.specs.Session.{Do, asks, in_status}
use Rattle.machine_model.specs.declared.reply.Reply.{Reply}
use Rattle.machine_model.specs.declared.status.Status.{Status}
use Rattle.machine_model.proofs.Levels.{plan-in_status, nowait-in_status}
use Rattle.session_steps.specs.State.{SessionState}
use Rattle.session_steps.specs.declared.asking.Asked.TheVariants.{Had}
use Rattle.session_steps.proofs.Moves.{goes-on-here}
use Rattle.machine_model.specs.Sound.{HoldsAll, Backed}
use Rattle.session_steps.specs.Going.{IsToAsk, HasAsked, Replied, IsReply, after_reply, standing, GoesOnTo}
use Rattle.session_steps.proofs.States.{held-taken}
use Rattle.machine_model.proofs.Stronger.{stronger-taking, holds-stronger, covers-taking, holds-plan}

-- ---- what is left of a plan

pub plan-ends : (qs : List Request) (n : ℕ) → slice_get qs n ≡ None → drop n qs ≡ []
plan-ends qs n none = at (slice_get_cases qs n).1
  where
    at : ((q : Request) × (n < length qs) × (slice_get qs n ≡ Some q) × (Rattle.std.proofs.Common.get_or qs n q ≡ q))
        ⊎ ((length qs ≤ n) × (slice_get qs n ≡ None)) → drop n qs ≡ []
    at (inl x) = absurd (let no : None ≡ Some x.0 = sym none ∙ x.2 in cc)
    at (inr x) = drop_all n qs x.0

pub plan-next : (qs : List Request) (n : ℕ) (q : Request) → slice_get qs n ≡ Some q → drop n qs ≡ q ∷ drop (n + 1) qs
plan-next qs n q some = at (slice_get_cases qs n).1
  where
    at : ((p : Request) × (n < length qs) × (slice_get qs n ≡ Some p) × (Rattle.std.proofs.Common.get_or qs n p ≡ p))
        ⊎ ((length qs ≤ n) × (slice_get qs n ≡ None)) → drop n qs ≡ q ∷ drop (n + 1) qs
    at (inl x) =
        let same : x.0 ≡ q = (let e : Some x.0 ≡ Some q = sym x.2 ∙ some in cc) in
        drop-cons qs n x.0 x.1 ∙ (λ k. (x.3 ∙ same) k ∷ drop (sym (add-one n) k) qs)
    at (inr x) = absurd (let no : None ≡ Some q = sym x.1 ∙ some in cc)

-- ---- what is held on the way

-- the next request is had
pub next-to-ask : (i : ℕ) (t : Locks) (st : Bound) (n : ℕ) (q : Request) → slice_get (asked st) n ≡ Some q → IsToAsk i t st n
    → IsToAsk i (taken t i q.resource q.mode) st (n + 1)
next-to-ask i t st n q some ready = record {
  idle = ready.idle;
  have = q ∷ ready.have;
  holds = subst (λ h. HoldsAll h (q ∷ ready.have)) (sym (held-taken t i q.resource q.mode)) (
    covers-taking (slice i t.held) q.resource q.mode,
    holds-stronger (slice i t.held) _ (stronger-taking (slice i t.held) q.resource q.mode) ready.have ready.holds,
  );
  backed = subst (λ qs. Backed ready.have (asks (nowait st) qs (Do st ∷ []))) (plan-next (asked st) n q some) ready.backed;
}

-- all requests are had
pub all-asked : (i : ℕ) (t : Locks) (st : Bound) (n : ℕ) → drop n (asked st) ≡ [] → IsToAsk i t st n → HoldsAll (slice i t.held) (asked st)
all-asked i t st n none ready = holds-plan (slice i t.held) ready.have (asked st) ready.holds
    (subst (λ qs. Backed ready.have (asks (nowait st) qs (Do st ∷ []))) none ready.backed).0

-- ---- a statement at the level of its transaction

-- one that is not unlocked asks for the plan of the statement as it stands
pub asked-plan : (x : Status) (st : Bound) → is_unlocked (in_status x st) ≡ false → asked (in_status x st) ≡ plan st
asked-plan x st locked = asked-locked (in_status x st) locked ∙ plan-in_status x st

-- a request gets a reply as one of what is asked
pub record RepliedAs (i : ℕ) (t : Locks) (q : Bound) (n : ℕ) (u : Locks) (reply : Reply) : Type 0 where
  pub request : Request
  pub here : slice_get (asked q) n ≡ Some request
  pub gets : IsReply t i request.resource request.mode (nowait q) reply
  pub changed : u ≡ after_reply t i request.resource request.mode reply

pub replied-as : (i : ℕ) (t : Locks) (x : Status) (st : Bound) (n : ℕ) (u : Locks) (reply : Reply) → is_unlocked (in_status x st) ≡ false
    → Replied i t st n u reply → RepliedAs i t (in_status x st) n u reply
replied-as i t x st n u reply locked r = record {
  request = r.request;
  here = subst (λ qs. slice_get qs n ≡ Some r.request) (sym (asked-plan x st locked)) r.here;
  gets = subst (λ b. IsReply t i r.request.resource r.request.mode b reply) (sym (nowait-in_status x st)) r.gets;
  changed = r.changed;
}

drop-none : (n : ℕ) (qs : List Request) → qs ≡ [] → drop n qs ≡ []
drop-none n qs none = drop_all n qs (subst (λ (xs : List Request). length xs ≤ n) (sym none) (let least : 0 ≤ n = omega arith in least))

-- one that is unlocked has asked already
pub nothing-asked : (i : ℕ) (t : Locks) (s : SessionState) (q : Bound) (n : ℕ) → is_unlocked q ≡ true → HasAsked i t s q n t Had
nothing-asked i t s q n is =
    let none : asked q ≡ [] = asked-unlocked q is in
    record {
      asks = λ l ts. subst (λ qs. GoesOnTo i (standing l t s) (asks (nowait q) qs ts) (standing l t s) ts) (sym (drop-none n (asked q) none))
          (goes-on-here i (standing l t s) ts);
      queues = refl;
      holds = subst (HoldsAll (slice i t.held)) (sym none) tt;
    }
