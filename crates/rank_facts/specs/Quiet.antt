-- Steps that do not meet.
use Rattle.std.specs.Prelude.{◌≡◌, ℕ, Bool, true, false, not, ◌&&◌, ◌||◌, ◌==◌, List, [], ◌∷◌, ◌++◌, length, is_some}
use Rattle.std.specs.List.{list_all}
use Rattle.lock_modes.specs.Mode.{compatible}
use Rattle.lock_queues.specs.Locks.{fits, waits_now}
use Rattle.lock_modes.specs.Resource.{same_resource}
use Rattle.bound_statements.specs.Plan.{Request}
use Rattle.machine_model.specs.World.{World, session_at, look_of}
use Rattle.bound_specs.specs.Spec.{Step}
use Rattle.events.specs.declared.event.Event.{Event}
use Rattle.events.specs.declared.event.Event.TheVariants.{Sent, Row as RowEvent, Rows, Inserted, Updated, Deleted, Began, Committed, RolledBack, Locked, Set, Warned, Failed, Waiting, Resumed, Done, NotSent}
use Rattle.machine_model.specs.Claims.{plans}

-- each request fits beside what sessions other than i hold
abbrev pub all_fit : World → ℕ → List Request → Bool
all_fit w i qs = list_all (λ q. fits (length w.sessions) (look_of w) i q.resource q.mode) qs

abbrev pub fit_together : Request → Request → Bool
fit_together q p = not (same_resource q.resource p.resource) || compatible q.mode p.mode

abbrev pub all_fit_together : List Request → List Request → Bool
all_fit_together qs ps = list_all (λ q. list_all (fit_together q) ps) qs

-- nobody waits where the session holds a lock or asks one
abbrev pub undisturbed : World → ℕ → List Request → Bool
undisturbed w i qs = list_all (λ v. not (is_some (look_of w i v.resource)) && list_all (λ q. not (same_resource v.resource q.resource)) qs) w.waits

-- steps s of session i and t of session j do not meet in the world
abbrev pub is_quiet : World → Step → Step → Bool
is_quiet w s t =
    let i = s.session in
    let j = t.session in
    let qs = plans s.statements in
    let ps = plans t.statements in
    not (i == j) && (not (waits_now w.waits i) && (not (waits_now w.waits j)
    && (all_fit w i qs && (all_fit w j ps && (all_fit_together qs ps && (undisturbed w i qs && undisturbed w j ps))))))

-- the event tells of no wait
abbrev pub is_calm : Event → Bool
is_calm (Sent k) = true
is_calm (RowEvent r) = true
is_calm (Rows n) = true
is_calm (Inserted n) = true
is_calm (Updated n) = true
is_calm (Deleted n) = true
is_calm Began = true
is_calm Committed = true
is_calm RolledBack = true
is_calm Locked = true
is_calm Set = true
is_calm (Warned w) = true
is_calm (Failed f) = true
is_calm Waiting = false
is_calm Resumed = false
is_calm Done = true
is_calm (NotSent k) = false

abbrev pub AllCalm : List Event → Type 0
AllCalm [] = Unit {0}
AllCalm (e ∷ es) = (is_calm e ≡ true) × AllCalm es

-- from the one world to the other, the session has noted that the step was sent, and then nothing that tells of a wait
abbrev pub SentCalmly : World → World → ℕ → ℕ → Type 0
SentCalmly w v i k = (es : List Event) × AllCalm es × ((session_at v i).transcript ≡ (session_at w i).transcript ++ Sent k ∷ es)
