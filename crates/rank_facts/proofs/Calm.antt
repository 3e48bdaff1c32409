-- A session that goes alone notes no wait.
use Rattle.std.proofs.Common.{◌≡◌, ◌≢◌, refl, sym, ap, subst, ◌∙◌, ℕ, ◌<◌, true, false, List, [], ◌∷◌, ◌++◌, length, get_or, append_assoc, length-set}
use Rattle.lock_modes.specs.Rows.{Rows'}
use Rattle.statement_evaluation.specs.Effect.{Effect, Gives, Faults, effect}
use Rattle.machine_model.specs.Session.{Task, Ask, Do, Session, Performed, Goes, Fails, Kind, Begins, Commits, RollsBack, Works, kind, perform, perform_by}
use Rattle.machine_model.specs.Session.{worked}
use Rattle.machine_model.specs.Go.{Stop, taking, solo, failed, finished_by, is_broken}
use Rattle.machine_model.specs.World.{World, session_at, send}
use Rattle.bound_specs.specs.Spec.{Step, no_step}
use Rattle.rank_facts.specs.Quiet.{is_calm, AllCalm, SentCalmly, is_quiet}
use Rattle.machine_model.specs.Claims.{plans}
use Rattle.machine_model.specs.Sound.{Sound}
use Rattle.machine_model.specs.Events.{is_effect}
use Rattle.events.specs.declared.event.Event.{Event}
use Rattle.events.specs.declared.event.Event.TheVariants.{Sent, Row as RowEvent, Rows, Inserted, Updated, Deleted, Began, Committed, RolledBack, Locked}
use Rattle.events.specs.declared.event.Event.TheVariants.{Set, Warned, Failed, Waiting, Resumed, Done, NotSent}
use Rattle.events.specs.declared.event.Fault.{Fault}
use Rattle.events.specs.declared.event.Fault.TheVariants.{Aborted}
use Rattle.machine_model.specs.declared.status.Status.{Status}
use Rattle.machine_model.specs.declared.status.Status.TheVariants.{Outside, InBlock, Broken}
use Rattle.bound_statements.specs.declared.statement.Bound.{Bound}
use Rattle.machine_model.proofs.Solo.{OnGoes}
use Rattle.rank_facts.proofs.Commute.{after, alone, sent, send-free, send-second, Apart, look-here, look-other}
use Rattle.rank_facts.proofs.FromQuiet.{apart-from}
use Rattle.machine_model.proofs.Telling.{AllEffects, TellsEffects, effect-tells}

-- and so of no wait
data-calm : (e : Event) → is_effect e ≡ true → is_calm e ≡ true
data-calm (Sent k) d = cc
data-calm (RowEvent r) d = refl
data-calm (Rows n) d = refl
data-calm (Inserted n) d = refl
data-calm (Updated n) d = refl
data-calm (Deleted n) d = refl
data-calm Began d = cc
data-calm Committed d = cc
data-calm RolledBack d = cc
data-calm Locked d = refl
data-calm Set d = refl
data-calm (Warned x) d = cc
data-calm (Failed f) d = cc
data-calm Waiting d = cc
data-calm Resumed d = cc
data-calm Done d = cc
data-calm (NotSent k) d = cc

all-calm : (es : List Event) → AllEffects es → AllCalm es
all-calm [] d = tt
all-calm (e ∷ es) d = (data-calm e d.0, all-calm es d.1)

abbrev CalmEffect : Effect → Type 0
CalmEffect (Gives events writes) = AllCalm events
CalmEffect (Faults f) = Unit {0}

calm-effect : (st : Bound) (rows : Rows') → CalmEffect (effect st rows)
calm-effect st rows = elim (effect st rows) as (λ f. TellsEffects f → CalmEffect f) [ Gives events writes ↦ all-calm events | Faults f ↦ λ d. tt ]
    (effect-tells st rows)

calm-append : (es fs : List Event) → AllCalm es → AllCalm fs → AllCalm (es ++ fs)
calm-append [] fs p q = q
calm-append (e ∷ es) fs p q = (p.0, calm-append es fs p.1 q)

-- ---- transcripts

-- the transcript has gone on without a wait
pub record GoesOn (from to : List Event) : Type 0 where
  pub events : List Event
  pub calm : AllCalm events
  pub is : to ≡ from ++ events

goes-on-trans : (a b c : List Event) → GoesOn a b → GoesOn b c → GoesOn a c
goes-on-trans a b c p q = record {
  events = p.events ++ q.events;
  calm = calm-append p.events q.events p.calm q.calm;
  is = q.is
      ∙ ap (λ x. x ++ q.events) p.is ∙ append_assoc a p.events q.events;
}

by-one : (a : List Event) (e : Event) → is_calm e ≡ true → GoesOn a (a ++ e ∷ [])
by-one a e c = record { events = e ∷ []; calm = (c, tt); is = refl }

by-two : (a : List Event) (e f : Event) → is_calm e ≡ true → is_calm f ≡ true → GoesOn a ((a ++ e ∷ []) ++ f ∷ [])
by-two a e f c d = goes-on-trans a (a ++ e ∷ []) ((a ++ e ∷ []) ++ f ∷ []) (by-one a e c) (by-one (a ++ e ∷ []) f d)

worked-on : (s : Session) (rows : Rows') (e : Effect) → CalmEffect e → OnGoes (worked s rows e) (λ s2 rows2. GoesOn s.transcript s2.transcript)
worked-on s rows (Gives events writes) c = record { events = events; calm = c; is = refl }
worked-on s rows (Faults f) c = tt

perform_by-on : (status : Status) (k : Kind) (s : Session) (rows : Rows') (st : Bound)
    → OnGoes (perform_by status k s rows st) (λ s2 rows2. GoesOn s.transcript s2.transcript)
perform_by-on Outside (Begins level) s rows st = by-one s.transcript Began refl
perform_by-on (InBlock of) (Begins level) s rows st = by-two s.transcript (Warned Rattle.events.specs.declared.event.Warning.TheVariants.InBlock) Began refl refl
perform_by-on Broken (Begins level) s rows st = tt
perform_by-on Outside Commits s rows st = by-two s.transcript (Warned Rattle.events.specs.declared.event.Warning.TheVariants.NoBlock) Committed refl refl
perform_by-on (InBlock of) Commits s rows st = by-one s.transcript Committed refl
perform_by-on Broken Commits s rows st = by-one s.transcript RolledBack refl
perform_by-on Outside RollsBack s rows st = by-two s.transcript (Warned Rattle.events.specs.declared.event.Warning.TheVariants.NoBlock)
    RolledBack refl refl
perform_by-on (InBlock of) RollsBack s rows st = by-one s.transcript RolledBack refl
perform_by-on Broken RollsBack s rows st = by-one s.transcript RolledBack refl
perform_by-on Outside Works s rows st = worked-on s rows _ (calm-effect st _)
perform_by-on (InBlock of) Works s rows st = worked-on s rows _ (calm-effect st _)
perform_by-on Broken Works s rows st = tt

finished-on : (status : Status) (s : Session) (rows : Rows') → GoesOn s.transcript (finished_by status s rows).session.transcript
finished-on Outside s rows = by-one s.transcript Done refl
finished-on (InBlock of) s rows = by-one s.transcript Done refl
finished-on Broken s rows = by-one s.transcript Done refl

failed-on : (s : Session) (rows : Rows') (f : Fault) → GoesOn s.transcript (failed s rows f).session.transcript
failed-on s rows f = record { events = Failed f ∷ Done ∷ []; calm = (refl, (refl, tt)); is = refl }

pub solo-on : (s : Session) (rows : Rows') (ts : List Task) → GoesOn s.transcript (solo s rows ts).session.transcript
solo-on s rows [] = finished-on s.status s rows
solo-on s rows (Ask n r m ∷ ts) =
    elim (is_broken s.status) as (λ b. GoesOn s.transcript (let x : Stop = elim b [ true ↦ failed s rows Aborted | false ↦ solo (taking s r m) rows ts ] in
    x.session.transcript)) [ true ↦ failed-on s rows Aborted | false ↦ solo-on (taking s r m) rows ts ]
solo-on s rows (Do st ∷ ts) = done (perform s rows st) (perform_by-on s.status (kind st) s rows st) (λ s2 rows2. solo-on s2 rows2 ts)
  where
    done : (d : Performed) → OnGoes d (λ s2 rows2. GoesOn s.transcript s2.transcript)
        → ((s2 : Session) (rows2 : Rows') → GoesOn s2.transcript (solo s2 rows2 ts).session.transcript)
        → GoesOn s.transcript (let x : Stop = elim d [ Goes s2 rows2 ↦ solo s2 rows2 ts | Fails f ↦ failed s rows f ] in x.session.transcript)
    done (Goes s2 rows2) g rec = goes-on-trans s.transcript s2.transcript _ g (rec s2 rows2)
    done (Fails f) g rec = failed-on s rows f

-- the step that is sent first, alone
abbrev FirstCalm : List Step → World → ℕ → Type 0
FirstCalm steps w k =
    let i = (get_or steps k no_step).session in
    let one = send steps w k in
    SentCalmly w one i k × (one.waits ≡ w.waits) × ((c : ℕ) → c ≢ i → session_at one c ≡ session_at w c)

abbrev BothCalm : List Step → World → ℕ → ℕ → Type 0
BothCalm steps w k l =
    let i = (get_or steps k no_step).session in
    let j = (get_or steps l no_step).session in
    let both = send steps (send steps w k) l in
    SentCalmly w both i k × SentCalmly w both j l × (both.waits ≡ w.waits) × ((c : ℕ) → c ≢ i → c ≢ j → session_at both c ≡ session_at w c)

-- in any world whose session has what the one that goes alone leaves
calmly : (w v : World) (i k : ℕ) (x : Stop) → session_at v i ≡ x.session → GoesOn ((session_at w i).transcript ++ Sent k ∷ []) x.session.transcript
    → SentCalmly w v i k
calmly w v i k x is g = (g.events, g.calm, ap (λ (y : Session). y.transcript) is ∙ g.is ∙ append_assoc (session_at w i).transcript (Sent k ∷ []) g.events)

first-calm : (steps : List Step) (w : World) (k l : ℕ) → Sound w → (get_or steps k no_step).session < length w.sessions
    → (get_or steps l no_step).session < length w.sessions → is_quiet w (get_or steps k no_step) (get_or steps l no_step) ≡ true
    → FirstCalm steps w k
first-calm steps w k l sound lti ltj quiet =
    let s : Step = get_or steps k no_step in
    let i : ℕ = s.session in
    let a = (apart-from w sound s (get_or steps l no_step) lti ltj quiet).one in
    let x : Stop = alone (sent w i k) w.rows s.statements in
    let is : send steps w k ≡ after w i x = send-free steps w k i s.statements refl a in (
      calmly w (send steps w k) i k x (ap (λ (v : World). session_at v i) is ∙ look-here w i x lti) (solo-on (sent w i k) w.rows _),
      ap (λ (v : World). v.waits) is,
      λ c ne. ap (λ (v : World). session_at v c) is ∙ look-other w i c x ne,
    )

both-calm : (steps : List Step) (w : World) (k l : ℕ) → Sound w → (get_or steps k no_step).session < length w.sessions
    → (get_or steps l no_step).session < length w.sessions → is_quiet w (get_or steps k no_step) (get_or steps l no_step) ≡ true
    → BothCalm steps w k l
both-calm steps w k l sound lti ltj quiet =
    let ss : List Bound = (get_or steps k no_step).statements in
    let ts : List Bound = (get_or steps l no_step).statements in
    let i : ℕ = (get_or steps k no_step).session in
    let j : ℕ = (get_or steps l no_step).session in
    let a : Apart w i j (session_at w i) (session_at w j) (plans ss) (plans ts) =
    apart-from w sound (get_or steps k no_step) (get_or steps l no_step) lti ltj quiet in
    let s : Session = sent w i k in
    let t : Session = sent w j l in
    let b : Apart w i j s t (plans ss) (plans ts) = record {
      differ = a.differ;
      one = a.one;
      other = a.other;
      friends = a.friends;
      one_under = a.one_under;
      other_under = a.other_under;
    } in
    let x : Stop = alone s w.rows ss in
    let v : World = after w i x in
    let y : Stop = alone t x.rows ts in
    let is : send steps (send steps w k) l ≡ after v j y = ap (λ u. send steps u l) (send-free steps w k i ss refl a.one)
    ∙ send-second steps w i j s t ss ts l refl b refl in (
      calmly w (send steps (send steps w k) l) i k x (ap (λ (u : World). session_at u i) is ∙ look-other v j i y a.differ ∙ look-here w i x lti)
          (solo-on s w.rows _),
      calmly w (send steps (send steps w k) l) j l y (ap (λ (u : World). session_at u j) is
          ∙ look-here v j y (subst (λ n. j < n) (sym (length-set w.sessions i x.session)) ltj)) (solo-on t x.rows _),
      ap (λ (u : World). u.waits) is,
      λ c ni nj. ap (λ (u : World). session_at u c) is ∙ look-other v j c y nj ∙ look-other w i c x ni,
    )

pub quiet-calm : (steps : List Step) (w : World) (k l : ℕ) → Sound w → (get_or steps k no_step).session < length w.sessions
    → (get_or steps l no_step).session < length w.sessions → is_quiet w (get_or steps k no_step) (get_or steps l no_step) ≡ true
    → FirstCalm steps w k × BothCalm steps w k l
quiet-calm steps w k l sound lti ltj quiet = (first-calm steps w k l sound lti ltj quiet, both-calm steps w k l sound lti ltj quiet)
