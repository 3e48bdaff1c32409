-- What the level of a statement leaves as it is, and where a session stands behind a statement.
use Rattle.std.proofs.Common.{◌≡◌, refl, ap, ◌∙◌, subst, List, [], ◌∷◌, All}
use Rattle.std.proofs.lemmas.List.Elements.{All-head, All-tail}
use Rattle.lock_modes.specs.Rows.{Rows'}
use Rattle.row_tables.specs.Overlay.{lay}
use Rattle.bound_statements.specs.Levels.{asked, at_level, AsksAlways}
use Rattle.bound_statements.specs.Plan.{plan, nowait}
use Rattle.bound_statements.proofs.LevelLemmas.{plan-at, nowait-at, always-at, always-locked, asked-locked}
use Rattle.bound_statements.specs.declared.statement.Bound.{Bound}
use Rattle.bound_statements.specs.declared.statement.Bound.TheVariants.{Select, Insert, Update, Delete, Begin, Commit, Rollback, Lock, SetVariable}
use Rattle.bound_statements.specs.declared.statement.Level.{Level}
use Rattle.binding_model.specs.declared.tables.Table.{Table}
use Rattle.bound_specs.specs.Fits.{Fits}
use Rattle.statement_evaluation.specs.Effect.{Effect, Gives, Faults, effect}
use Rattle.statement_evaluation.proofs.LevelEffects.{effect-at}
use Rattle.machine_model.specs.declared.status.Status.{Status}
use Rattle.machine_model.specs.declared.status.Status.TheVariants.{Outside, InBlock, Broken}
use Rattle.machine_model.specs.Session.{Do, asks, Session, Kind, Begins, Commits, RollsBack, Works, kind, behind_by, behind, in_status, tasks_of, locked_tasks, Performed}
use Rattle.machine_model.specs.Session.{Goes, Fails, worked, perform_by, perform}

-- ---- one statement

kind-at : (l : Level) (st : Bound) → kind (at_level l st) ≡ kind st
kind-at l (Select t key c by out lock) = refl
kind-at l (Insert t key rows) = refl
kind-at l (Update t key sets c) = refl
kind-at l (Delete t key c) = refl
kind-at l (Lock t m n) = refl
kind-at l (Begin named) = refl
kind-at l Commit = refl
kind-at l Rollback = refl
kind-at l SetVariable = refl

pub kind-in_status : (x : Status) (st : Bound) → kind (in_status x st) ≡ kind st
kind-in_status Outside st = refl
kind-in_status (InBlock l) st = kind-at l st
kind-in_status Broken st = refl

pub plan-in_status : (x : Status) (st : Bound) → plan (in_status x st) ≡ plan st
plan-in_status Outside st = refl
plan-in_status (InBlock l) st = plan-at l st
plan-in_status Broken st = refl

pub nowait-in_status : (x : Status) (st : Bound) → nowait (in_status x st) ≡ nowait st
nowait-in_status Outside st = refl
nowait-in_status (InBlock l) st = nowait-at l st
nowait-in_status Broken st = refl

pub effect-in_status : (x : Status) (st : Bound) (rows : Rows') → effect (in_status x st) rows ≡ effect st rows
effect-in_status Outside st rows = refl
effect-in_status (InBlock l) st rows = effect-at l st rows
effect-in_status Broken st rows = refl

fits-at : (tables : List Table) (l : Level) (st : Bound) → Fits tables st → Fits tables (at_level l st)
fits-at tables l (Select t key c by out lock) h = h
fits-at tables l (Insert t key rows) h = h
fits-at tables l (Update t key sets c) h = h
fits-at tables l (Delete t key c) h = h
fits-at tables l (Lock t m n) h = h
fits-at tables l (Begin named) h = h
fits-at tables l Commit h = h
fits-at tables l Rollback h = h
fits-at tables l SetVariable h = h

pub fits-in_status : (tables : List Table) (x : Status) (st : Bound) → Fits tables st → Fits tables (in_status x st)
fits-in_status tables Outside st h = h
fits-in_status tables (InBlock l) st h = fits-at tables l st h
fits-in_status tables Broken st h = h

-- ---- performing it

perform-same : (x : Status) (k : Kind) (s : Session) (rows : Rows') (st st2 : Bound) → ((seen : Rows') → effect st seen ≡ effect st2 seen)
    → perform_by x k s rows st ≡ perform_by x k s rows st2
perform-same Outside (Begins l) s rows st st2 h = refl
perform-same (InBlock of) (Begins l) s rows st st2 h = refl
perform-same Broken (Begins l) s rows st st2 h = refl
perform-same Outside Commits s rows st st2 h = refl
perform-same (InBlock of) Commits s rows st st2 h = refl
perform-same Broken Commits s rows st st2 h = refl
perform-same Outside RollsBack s rows st st2 h = refl
perform-same (InBlock of) RollsBack s rows st st2 h = refl
perform-same Broken RollsBack s rows st st2 h = refl
perform-same Outside Works s rows st st2 h = ap (worked s rows) (h (lay s.overlay rows))
perform-same (InBlock of) Works s rows st st2 h = ap (worked s rows) (h (lay s.overlay rows))
perform-same Broken Works s rows st st2 h = refl

-- the level is nothing to what a statement does
pub perform-in_status : (x : Status) (s : Session) (rows : Rows') (st : Bound) → perform s rows (in_status x st) ≡ perform s rows st
perform-in_status x s rows st =
    ap (λ k. perform_by s.status k s rows (in_status x st)) (kind-in_status x st)
    ∙ perform-same s.status (kind st) s rows (in_status x st) st (effect-in_status x st)

abbrev pub StandsAt : Status → Performed → Type 0
StandsAt x (Goes s rows) = s.status ≡ x
StandsAt x (Fails f) = Unit {0}

worked-stands : (s : Session) (rows : Rows') (e : Effect) → StandsAt s.status (worked s rows e)
worked-stands s rows (Gives events writes) = refl
worked-stands s rows (Faults f) = tt

perform_by-stands : (x : Status) (k : Kind) (s : Session) (rows : Rows') (st : Bound) → s.status ≡ x → StandsAt (behind_by x k) (perform_by x k s rows st)
perform_by-stands Outside (Begins l) s rows st is = refl
perform_by-stands (InBlock of) (Begins l) s rows st is = is
perform_by-stands Broken (Begins l) s rows st is = tt
perform_by-stands Outside Commits s rows st is = refl
perform_by-stands (InBlock of) Commits s rows st is = refl
perform_by-stands Broken Commits s rows st is = refl
perform_by-stands Outside RollsBack s rows st is = refl
perform_by-stands (InBlock of) RollsBack s rows st is = refl
perform_by-stands Broken RollsBack s rows st is = refl
perform_by-stands Outside Works s rows st is =
    subst (λ y. StandsAt y (worked s rows (effect st (lay s.overlay rows)))) is (worked-stands s rows (effect st (lay s.overlay rows)))
perform_by-stands (InBlock of) Works s rows st is =
    subst (λ y. StandsAt y (worked s rows (effect st (lay s.overlay rows)))) is (worked-stands s rows (effect st (lay s.overlay rows)))
perform_by-stands Broken Works s rows st is = tt

-- where a session stands with its block behind a statement that goes
pub perform-stands : (s : Session) (rows : Rows') (st : Bound) → StandsAt (behind s.status st) (perform s rows st)
perform-stands s rows st = perform_by-stands s.status (kind st) s rows st refl

pub perform-behind : (s s2 : Session) (rows rows2 : Rows') (st : Bound) → perform s rows st ≡ Goes s2 rows2 → s2.status ≡ behind s.status st
perform-behind s s2 rows rows2 st goes = subst (StandsAt (behind s.status st)) goes (perform-stands s rows st)

-- ---- statements that ask always

pub always-in_status : (x : Status) (st : Bound) → AsksAlways st → in_status x st ≡ st
always-in_status Outside st a = refl
always-in_status (InBlock l) st a = always-at l st a
always-in_status Broken st a = refl

-- they come to the same tasks wherever their session stands: to their plans, and themselves
pub always-tasks : (x : Status) (sts : List Bound) → All AsksAlways sts → tasks_of x sts ≡ locked_tasks sts
always-tasks x [] a = refl
always-tasks x (st ∷ sts) a =
    let always : AsksAlways st = All-head AsksAlways st sts a in
    (λ i. asks (nowait (always-in_status x st always i)) (asked (always-in_status x st always i))
    (Do (always-in_status x st always i) ∷ always-tasks (behind x st) sts (All-tail AsksAlways st sts a) i))
    ∙ ap (λ qs. asks (nowait st) qs (Do st ∷ locked_tasks sts)) (asked-locked st (always-locked st always))
