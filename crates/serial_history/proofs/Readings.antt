-- A transcript read event by event.
use Rattle.std.proofs.Common.{◌≡◌, ◌≢◌, refl, sym, ap, ◌∙◌, subst, Bool, true, false, cond, List, [], ◌∷◌, ◌++◌, append_assoc, append-nil}
use Rattle.statement_evaluation.specs.Effect.{Gives}
use Rattle.lock_modes.specs.Rows.{Write}
use Rattle.events.specs.declared.event.Event.{Event}
use Rattle.events.specs.declared.event.Event.TheVariants.{Sent, Row as RowEvent, Rows, Inserted, Updated, Deleted, Began, Committed, RolledBack, Locked}
use Rattle.events.specs.declared.event.Event.TheVariants.{Set, Warned, Failed, Waiting, Resumed, Done, NotSent}
use Rattle.machine_model.specs.Session.{after_fault}
use Rattle.machine_model.specs.declared.status.Status.{Status}
use Rattle.machine_model.specs.declared.status.Status.TheVariants.{Outside, InBlock, Broken}
use Rattle.serial_history.specs.Reading.{is_data, data_of, Closed, Reading, closed_with, ends, step_ends, opens, read_one, read, closed_events, told_in}
use Rattle.serial_history.specs.Serial.{Did, Ended, ended_with, events_of, closed_of, untold, reading_of, AllTell}
use Rattle.serial_history.proofs.WorkTold.{AllData, TellsWork}

-- ---- reading

pub read-append : (x : Reading) (es fs : List Event) → read x (es ++ fs) ≡ read (read x es) fs
read-append x [] fs = refl
read-append x (e ∷ es) fs = read-append (read_one x e) es fs

-- reading goes on from where it stands
pub read-more : (from x : Reading) (es fs : List Event) → x ≡ read from es → read x fs ≡ read from (es ++ fs)
read-more from x es fs p = ap (λ (y : Reading). read y fs) p ∙ sym (read-append from es fs)

read_one-data : (x : Reading) (e : Event) → is_data e ≡ true → read_one x e ≡ opens e x
read_one-data x (Sent k) h = cc
read_one-data x (RowEvent r) h = refl
read_one-data x (Rows n) h = refl
read_one-data x (Inserted n) h = refl
read_one-data x (Updated n) h = refl
read_one-data x (Deleted n) h = refl
read_one-data x Began h = cc
read_one-data x Committed h = cc
read_one-data x RolledBack h = cc
read_one-data x Locked h = cc
read_one-data x Set h = cc
read_one-data x (Warned w) h = cc
read_one-data x (Failed f) h = cc
read_one-data x Waiting h = cc
read_one-data x Resumed h = cc
read_one-data x Done h = cc
read_one-data x (NotSent k) h = cc

abbrev with_pending : Reading → List Event → Reading
with_pending x es = record { status = x.status; pending = es; ended = x.ended }

-- data events are all of the open transaction
read-data : (x : Reading) (es : List Event) → AllData es → read x es ≡ with_pending x (x.pending ++ es)
read-data x [] all = ap (with_pending x) (sym (append-nil x.pending))
read-data x (e ∷ es) all =
    ap (λ (y : Reading). read y es) (read_one-data x e all.0) ∙ read-data (opens e x) es all.1 ∙ ap (with_pending x) (append_assoc x.pending (e ∷ []) es)

-- a fault outside a block leaves nothing that the step's end could commit
pub failed-reads : (status : Status) (x : Reading) → step_ends (after_fault status) (ends false (after_fault status) x) ≡ ends false (after_fault status) x
failed-reads Outside x =
    ap (λ xs. let y : Reading = record { status = Outside; pending = []; ended = xs } in y) (append-nil (x.ended ++ closed_with false x.pending))
failed-reads (InBlock of) x = refl
failed-reads Broken x = refl

-- ---- what a history tells is read so

events_of-push : (ds : List Did) (d : Did) → events_of (ds ++ d ∷ []) ≡ events_of ds ++ d.events
events_of-push [] d = append-nil d.events
events_of-push (x ∷ ds) d = ap (λ e. x.events ++ e) (events_of-push ds d) ∙ sym (append_assoc x.events (events_of ds) d.events)

tell-push : (ds : List Did) (d : Did) → AllTell ds → d.events ≢ [] → AllTell (ds ++ d ∷ [])
tell-push [] d all h = (h, tt)
tell-push (x ∷ ds) d all h = (all.0, tell-push ds d all.1 h)

closed-some : (b : Bool) (es fs : List Event) → es ≢ [] → (let x : Closed = record { is_committed = b; events = es ++ fs } in x ∷ []) ≡ closed_with b (es ++ fs)
closed-some b [] fs h = absurd (h refl)
closed-some b (e ∷ es) fs h = refl

-- work that told something ends with its events
closed_of-ended : (b : Bool) (xs : List Ended) (ds : List Did) → AllTell ds → closed_of (xs ++ ended_with b ds) ≡ closed_of xs ++ closed_with b (events_of ds)
closed_of-ended b [] [] all = refl
closed_of-ended b [] (d ∷ ds) all = closed-some b d.events (events_of ds) all.0
closed_of-ended b (x ∷ xs) ds all =
    ap (λ cs. let c : Closed = record { is_committed = x.is_committed; events = events_of x.work } in c ∷ cs) (closed_of-ended b xs ds all)

-- what was open has ended
pub ended-reads : (b : Bool) (status status2 : Status) (ds : List Did) (xs : List Ended) → AllTell ds
    → reading_of status2 [] (xs ++ ended_with b ds) ≡ ends b (untold status2) (reading_of status ds xs)
ended-reads b status status2 ds xs all =
    ap (λ cs. let y : Reading = record { status = untold status2; pending = []; ended = cs } in y) (closed_of-ended b xs ds all)

-- one more statement is done
pub did-reads : (b : Bool) (status : Status) (ds : List Did) (xs : List Ended) (d : Did) (ws : List Write) → TellsWork b (Gives d.events ws)
    → reading_of status (ds ++ cond b (d ∷ []) []) xs ≡ read (reading_of status ds xs) d.events
did-reads true status ds xs d ws h =
    let x : Reading = reading_of status ds xs in
    ap (with_pending x) (events_of-push ds d) ∙ sym (read-data x d.events h.0)
did-reads false status ds xs d ws h = ap (λ w. reading_of status w xs) (append-nil ds) ∙ sym (h.0 (reading_of status ds xs))

pub did-tells : (b : Bool) (ds : List Did) (d : Did) (ws : List Write) → TellsWork b (Gives d.events ws) → AllTell ds → AllTell (ds ++ cond b (d ∷ []) [])
did-tells true ds d ws h all = tell-push ds d all h.1
did-tells false ds d ws h all = subst AllTell (sym (append-nil ds)) all

-- ---- reading loses and adds nothing

closed_events-push : (b : Bool) (xs : List Closed) (es : List Event) → closed_events (xs ++ closed_with b es) ≡ closed_events xs ++ es
closed_events-push b [] [] = refl
closed_events-push b [] (e ∷ es) = append-nil (e ∷ es)
closed_events-push b (x ∷ xs) es = ap (λ y. x.events ++ y) (closed_events-push b xs es) ∙ sym (append_assoc x.events (closed_events xs) es)

ends-keeps : (b : Bool) (status : Status) (x : Reading) → told_in (ends b status x) ≡ told_in x
ends-keeps b status x = append-nil (closed_events (x.ended ++ closed_with b x.pending)) ∙ closed_events-push b x.ended x.pending

step_ends-keeps : (status : Status) (x : Reading) → told_in (step_ends status x) ≡ told_in x
step_ends-keeps Outside x = ends-keeps true Outside x
step_ends-keeps (InBlock of) x = refl
step_ends-keeps Broken x = refl

opens-keeps : (e : Event) (x : Reading) (es : List Event) → told_in (opens e x) ++ es ≡ told_in x ++ e ∷ es
opens-keeps e x es =
    ap (λ y. y ++ es) (sym (append_assoc (closed_events x.ended) x.pending (e ∷ []))) ∙ append_assoc (told_in x) (e ∷ []) es

read_one-keeps : (x : Reading) (e : Event) (es : List Event) → told_in (read_one x e) ++ data_of es ≡ told_in x ++ data_of (e ∷ es)
read_one-keeps x (Sent k) es = refl
read_one-keeps x (RowEvent r) es = opens-keeps (RowEvent r) x (data_of es)
read_one-keeps x (Rows n) es = opens-keeps (Rows n) x (data_of es)
read_one-keeps x (Inserted n) es = opens-keeps (Inserted n) x (data_of es)
read_one-keeps x (Updated n) es = opens-keeps (Updated n) x (data_of es)
read_one-keeps x (Deleted n) es = opens-keeps (Deleted n) x (data_of es)
read_one-keeps x Began es = refl
read_one-keeps x Committed es = ap (λ y. y ++ data_of es) (ends-keeps true Outside x)
read_one-keeps x RolledBack es = ap (λ y. y ++ data_of es) (ends-keeps false Outside x)
read_one-keeps x Locked es = refl
read_one-keeps x Set es = refl
read_one-keeps x (Warned w) es = refl
read_one-keeps x (Failed f) es = ap (λ y. y ++ data_of es) (ends-keeps false (after_fault x.status) x)
read_one-keeps x Waiting es = refl
read_one-keeps x Resumed es = refl
read_one-keeps x Done es = ap (λ y. y ++ data_of es) (step_ends-keeps x.status x)
read_one-keeps x (NotSent k) es = refl

-- the data events that were read, and those that were there, are told
pub read-keeps : (x : Reading) (es : List Event) → told_in (read x es) ≡ told_in x ++ data_of es
read-keeps x [] = sym (append-nil (told_in x))
read-keeps x (e ∷ es) = read-keeps (read_one x e) es ∙ read_one-keeps x e es
