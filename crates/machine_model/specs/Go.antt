-- A session goes on until its step ends, a request waits or an error ends the step.
use Rattle.std.specs.Prelude.{ℕ, Bool, true, false, ◌==◌, List, [], ◌∷◌, ◌++◌, if◌then◌else◌}
use Rattle.finite_maps.specs.Map.{get, insert}
use Rattle.lock_queues.specs.declared.wait.Wait.{Wait}
use Rattle.lock_queues.specs.Locks.{Look, wanted, may_have, closes_ring}
use Rattle.lock_modes.specs.Rows.{Rows'}
use Rattle.row_tables.specs.Overlay.{lay}
use Rattle.lock_modes.specs.declared.mode.Mode.{Mode}
use Rattle.lock_modes.specs.declared.resource.Resource.{Resource}
use Rattle.events.specs.declared.event.Fault.{Fault}
use Rattle.events.specs.declared.event.Fault.TheVariants.{Deadlock, Aborted, Unavailable}
use Rattle.events.specs.declared.event.Event.TheVariants.{Failed, Waiting, Done}
use Rattle.machine_model.specs.declared.status.Status.{Status}
use Rattle.machine_model.specs.declared.status.Status.TheVariants.{Outside, InBlock, Broken}
use Rattle.machine_model.specs.declared.reply.Reply.{Reply}
use Rattle.machine_model.specs.declared.reply.Reply.TheVariants.{Had, Waits, Refused}
use Rattle.machine_model.specs.Session.{Ask, Do, Fails, Goes, Held, Session, Task, after_fault, note, perform, released}

-- what the running session sees of the others
pub record Scene : Type 0 where
  pub count : ℕ
  pub look : Look
  pub waits : List Wait

-- where it stops: at its step's end, at a wait or at a fault
pub record Run : Type 0 where
  pub session : Session
  pub rows : Rows'
  pub waits : List Wait

-- a session that stops with nothing left of its step, and the committed rows
pub record Stop : Type 0 where
  pub session : Session
  pub rows : Rows'

abbrev pub stopped : Scene → Stop → Run
stopped e x = record { session = x.session; rows = x.rows; waits = e.waits }

abbrev pub broken_off : Session → Fault → Session
broken_off s f = record (released s) { status = after_fault s.status; rest = []; transcript = s.transcript ++ Failed f ∷ Done ∷ [] }

abbrev pub failed : Session → Rows' → Fault → Stop
failed s rows f = record { session = broken_off s f; rows = rows }

-- outside a block the step's statements are a transaction that commits
abbrev pub finished_by : Status → Session → Rows' → Stop
finished_by Outside s rows = record { session = note (released s) Done; rows = lay s.overlay rows }
finished_by (InBlock level) s rows = record { session = note s Done; rows = rows }
finished_by Broken s rows = record { session = note s Done; rows = rows }

-- the session's own locks, and those of the others
abbrev pub look_with : Scene → ℕ → Held → Look
look_with e i held = λ c r. if c == i then get held r else e.look c r

abbrev pub waiting_with : Scene → ℕ → Resource → Mode → List Wait
waiting_with e i r m = e.waits ++ record { session = i; resource = r; mode = m } ∷ []

-- what a request gets that may be had at once or not, that refuses to wait or not, and whose wait would close a ring or not
abbrev pub replied : Bool → Bool → Bool → Reply
replied true nowait closes = Had
replied false true closes = Refused Unavailable
replied false false true = Refused Deadlock
replied false false false = Waits

-- what the session's request gets
abbrev pub reply_in : Scene → ℕ → Session → Bool → Resource → Mode → Reply
reply_in e i s nowait r m =
    replied (may_have e.count e.look e.waits i (get s.held r) r m) nowait (closes_ring e.count (look_with e i s.held) (waiting_with e i r m) i)

-- the session waits, with these tasks left
abbrev pub held_up : Scene → ℕ → Session → Rows' → Resource → Mode → List Task → Run
held_up e i s rows r m ts = record { session = note (record s { rest = ts }) Waiting; rows = rows; waits = waiting_with e i r m }

-- the session holds the cover there
abbrev pub taking : Session → Resource → Mode → Session
taking s r m = record s { held = insert s.held r (wanted (get s.held r) m) }

abbrev pub is_broken : Status → Bool
is_broken Outside = false
is_broken (InBlock level) = false
is_broken Broken = true

abbrev pub go : Scene → ℕ → Session → Rows' → List Task → Run
go e i s rows [] = stopped e (finished_by s.status s rows)
go e i s rows (Ask nowait r m ∷ ts) =
    elim (is_broken s.status) [
      | true ↦ stopped e (failed s rows Aborted)
      | false ↦ elim (reply_in e i s nowait r m) [
        | Had ↦ go e i (taking s r m) rows ts
        | Waits ↦ held_up e i s rows r m ts
        | Refused f ↦ stopped e (failed s rows f)
      ]
    ]
go e i s rows (Do st ∷ ts) = elim (perform s rows st) [ Goes s2 rows2 ↦ go e i s2 rows2 ts | Fails f ↦ stopped e (failed s rows f) ]

-- the same where each request is had
abbrev pub solo : Session → Rows' → List Task → Stop
solo s rows [] = finished_by s.status s rows
solo s rows (Ask nowait r m ∷ ts) = elim (is_broken s.status) [ true ↦ failed s rows Aborted | false ↦ solo (taking s r m) rows ts ]
solo s rows (Do st ∷ ts) = elim (perform s rows st) [ Goes s2 rows2 ↦ solo s2 rows2 ts | Fails f ↦ failed s rows f ]
