-- Calls on a stage in turn: what they do together to where a session stands, and what stays of the others.
use Rattle.std.proofs.Common.{◌≡◌, refl, sym, ap, ◌∙◌, subst, ℕ, ◌<◌, List, [], ◌∷◌, length, set, get_or, drop, Option, Some, None, is_some, append_assoc}
use Rattle.std.proofs.Common.{length-set, get_or-set_same, set-set}
use Rattle.std.proofs.lemmas.List.{set-get_or}
use Rattle.events.specs.declared.event.Event.{Event}
use Rattle.events.specs.declared.event.Event.TheVariants.{Failed, Done}
use Rattle.events.specs.declared.event.Fault.{Fault}
use Rattle.bound_specs.specs.Spec.{Step}
use Rattle.lock_queues.specs.LockTable.{Locks}
use Rattle.row_tables.specs.Layers.{Layers}
use Rattle.machine_model.specs.Session.{after_fault}
use Rattle.session_steps.specs.declared.point.Point.{Point}
use Rattle.session_steps.specs.declared.point.Rest.{Rest}
use Rattle.session_steps.specs.State.{SessionState}
use Rattle.session_steps.specs.Acting as act
use Rattle.session_steps.specs.Going.{Standing, standing, tasks_from, told, failed_in, StopsIn, WaitsIf, GoesUntil}
use Rattle.session_steps.specs.Stage.{Member, Staged, no_member, member_at, note_member, standing_at, others, with_rest, statements_of, rest_of, rest_at}
use Rattle.session_steps.specs.Stage.{own_of, RestIsOf, HasTold, HasGone}
use Rattle.session_steps.proofs.Stages.{get_or-any}

-- ---- the other sessions

-- where the others stay, the sessions are as before but for this one
pub others-set : (i : ℕ) (x y : Staged) → others i y ≡ others i x → y.members ≡ set x.members i (member_at y i)
others-set i x y same =
    sym (set-get_or y.members i no_member)
    ∙ sym (set-set y.members i (record { state = no_member.state; rest = (member_at y i).rest }) (member_at y i))
    ∙ ap (λ ms. set ms i (member_at y i)) same
    ∙ set-set x.members i (record { state = no_member.state; rest = (member_at x i).rest }) (member_at y i)

pub others-count : (i : ℕ) (x y : Staged) → others i y ≡ others i x → length y.members ≡ length x.members
others-count i x y same = ap length (others-set i x y same) ∙ length-set x.members i (member_at y i)

-- and so is what is left of its step
pub others-rest : (i : ℕ) (x y : Staged) → i < length x.members → others i y ≡ others i x → (member_at y i).rest ≡ (member_at x i).rest
others-rest i x y lt same =
    let there : i < length y.members = subst (λ n. i < n) (sym (others-count i x y same)) lt in
    ap (λ (m : Member). m.rest)
    (sym (get_or-set_same y.members i (record { state = no_member.state; rest = (member_at y i).rest }) no_member there)
    ∙ ap (λ ms. get_or ms i no_member) same
    ∙ get_or-set_same x.members i (record { state = no_member.state; rest = (member_at x i).rest }) no_member lt)

-- a session is changed but for what is left of its step
pub others-still : (i : ℕ) (x : Staged) (r m : Member) → i < length x.members → r ≡ get_or x.members i r → m.rest ≡ r.rest
    → others i (record x { members = set x.members i m }) ≡ others i x
others-still i x r m lt here same =
    let there : (get_or (set x.members i m) i no_member).rest ≡ (member_at x i).rest =
    ap (λ (q : Member). q.rest) (get_or-set_same x.members i m no_member lt) ∙ same
    ∙ ap (λ (q : Member). q.rest) (here ∙ get_or-any x.members i r no_member lt) in
    (λ k. set (set x.members i m) i (record { state = no_member.state; rest = there k }))
    ∙ set-set x.members i m (record { state = no_member.state; rest = (member_at x i).rest })

-- a session is told of an event
pub told-there : (i : ℕ) (e : Event) (x y : Staged) → i < length x.members → standing_at i y ≡ told (standing_at i x) e → others i y ≡ others i x → HasTold i e x y
told-there i e x y lt is same =
    let rest = others-rest i x y lt same in
    let member : member_at y i ≡ note_member (member_at x i) e = λ k. record {
      state = record { status = (is k).own.status; transcript = (is k).own.transcript };
      rest = rest k;
    } in
    record {
      store = λ k. (is k).layers;
      locks = λ k. (is k).locks;
      members = others-set i x y same ∙ ap (set x.members i) member;
    }

-- ---- a fault ends a step

pub failed-is : (i : ℕ) (l : Layers) (t : Locks) (s : SessionState) (f : Fault)
    → told (told (act.stands (act.let_go i (act.undone i (standing l t s))) (after_fault s.status)) (Failed f)) Done ≡ failed_in i (standing l t s) f
failed-is i l t s f = λ k. record {
  layers = (failed_in i (standing l t s) f).layers;
  locks = (failed_in i (standing l t s) f).locks;
  own = record { status = after_fault s.status; rest = []; transcript = append_assoc s.transcript (Failed f ∷ []) (Done ∷ []) k };
}

-- ---- a session has gone

stops-of : (steps : List Step) (i step : ℕ) (x : Standing) (from : Point) (m : Layers) (u : Locks) (s : SessionState) (stopped : Option Point)
    → GoesUntil i x (statements_of steps step) from m u s stopped
    → StopsIn i x (tasks_from x.own.status (drop from.statement (statements_of steps step)) from.request)
    (record { layers = m; locks = u; own = record { status = s.status; rest = rest_of steps s.status (rest_at step stopped); transcript = s.transcript } })
stops-of steps i step x from m u s None goes = goes
stops-of steps i step x from m u s (Some p) goes = goes

rests-if : (step : ℕ) (stopped : Option Point) → is_some (rest_at step stopped) ≡ is_some stopped
rests-if step None = refl
rests-if step (Some p) = refl

known-if : (n step : ℕ) (stopped : Option Point) → step < n → (r : Rest) → rest_at step stopped ≡ Some r → r.step < n
known-if n step None lt r is = cc
known-if n step (Some p) lt r is = subst (λ (o : Option Rest). step_or step o < n) is lt
  where
    step_or : ℕ → Option Rest → ℕ
    step_or d None = d
    step_or d (Some q) = q.step

-- the session went on until it stopped there, and what is left is noted
pub gone-there : (steps : List Step) (i step : ℕ) (from : Point) (x z y : Staged) (stopped : Option Point) → i < length x.members → step < length steps
    → others i z ≡ others i x
    → GoesUntil i (standing_at i x) (statements_of steps step) from z.store z.locks (member_at z i).state stopped
    → WaitsIf i x.locks z.locks (is_some stopped) → y ≡ with_rest i (rest_at step stopped) z
    → HasGone steps i (tasks_from (member_at x i).state.status (drop from.statement (statements_of steps step)) from.request) x y
gone-there steps i step from x z y stopped lt known same goes waits is =
    let m : Member = record { state = (member_at z i).state; rest = rest_at step stopped } in
    let w = with_rest i (rest_at step stopped) z in
    let there : i < length z.members = subst (λ n. i < n) (sym (others-count i x z same)) lt in
    let here : member_at w i ≡ m = get_or-set_same z.members i m no_member there in
    subst (HasGone steps i (tasks_from (member_at x i).state.status (drop from.statement (statements_of steps step)) from.request) x) (sym is) (record {
      members = ap (λ ms. set ms i m) (others-set i x z same) ∙ set-set x.members i (member_at z i) m ∙ ap (set x.members i) (sym here);
      stops = subst (λ (q : Member). StopsIn i (standing_at i x) (tasks_from (member_at x i).state.status (drop from.statement (statements_of steps step)) from.request)
          (record { layers = z.store; locks = z.locks; own = own_of steps q })) (sym here)
          (stops-of steps i step (standing_at i x) from z.store z.locks (member_at z i).state stopped goes);
      waits = subst (λ (q : Member). WaitsIf i x.locks z.locks (is_some q.rest)) (sym here)
          (subst (WaitsIf i x.locks z.locks) (sym (rests-if step stopped)) waits);
      known = subst (RestIsOf (length steps)) (sym here) (known-if (length steps) step stopped known);
    })

-- where the session stands with its block as before, and was told the same, the sessions are as before
pub same-members : (i : ℕ) (x y : Staged) → i < length x.members → (standing_at i y).own ≡ (standing_at i x).own → others i y ≡ others i x
    → y.members ≡ x.members
same-members i x y lt own same =
    let rest = others-rest i x y lt same in
    let member : member_at y i ≡ member_at x i = λ k. record {
      state = record { status = (own k).status; transcript = (own k).transcript };
      rest = rest k;
    } in
    others-set i x y same ∙ ap (set x.members i) member ∙ set-get_or x.members i no_member
