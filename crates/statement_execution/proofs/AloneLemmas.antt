-- No other session has written where a statement writes.
use Rattle.std.proofs.Common.{◌≡◌, ◌≢◌, refl, sym, ap, ◌∙◌, subst, ℕ, Bool, true, false, cond, List, [], ◌∷◌, Option, Some}
use Rattle.std.specs.Option.{unwrap_or}
use Rattle.finite_maps.specs.Map.{same_key, same_key-true, get, insert, empty, entries, get-insert, get-empty}
use Rattle.lock_modes.specs.RowPlace.{RowPlace, place_order}
use Rattle.lock_modes.specs.Rows.{Tuple, Rows', Write}
use Rattle.row_tables.specs.Overlay.{Overlay}
use Rattle.row_tables.specs.Layers.{Layers, session_order, overlay_of, IsOnlyWriterAt, wrote, no_rows}
use Rattle.events.specs.declared.event.Event.{Event}
use Rattle.bound_statements.specs.Levels.{is_unlocked}
use Rattle.bound_statements.specs.declared.condition.Condition.{Condition}
use Rattle.bound_statements.specs.declared.statement.Bound.{Bound}
use Rattle.bound_statements.specs.declared.statement.Bound.TheVariants.{Select, Insert, Update, Delete, Begin, Commit, Rollback, Lock, SetVariable}
use Rattle.bound_statements.specs.declared.statement.Output.{Output}
use Rattle.bound_statements.specs.declared.statement.RowLock.{RowLock}
use Rattle.bound_statements.specs.declared.statement.SortKey.{SortKey}
use Rattle.lock_modes.specs.declared.value.Value.{Value}
use Rattle.statement_evaluation.specs.Effect.{Effect, Gives, Faults, effect, matching, visible}
use Rattle.statement_evaluation.proofs.ListLemmas.{Each}
use Rattle.statement_evaluation.proofs.WriteLemmas.{OnGives, on-selected, effect-each}
use Rattle.statement_execution.specs.Run.{WritesAlone, SeesAlone, MayLook, wrote_each, left_by}
use Rattle.statement_execution.specs.Alone.{IsAlone}

-- a write of a session is none of another's
overlay-kept : (session : ℕ) (place : RowPlace) (left : Option Tuple) (l : Layers) (other : ℕ) → other ≢ session → overlay_of other (wrote session place left l)
    ≡ overlay_of other l
overlay-kept session place left l other ne =
    ap (λ o. unwrap_or o empty) (get-insert l.overlays session (insert (overlay_of session l) place left) other
    ∙ at (same_key session_order other session) refl)
  where
    at : (b : Bool) → same_key session_order other session ≡ b
        → cond (same_key session_order other session) (Some (insert (overlay_of session l) place left)) (get l.overlays other) ≡ get l.overlays other
    at true is = absurd (ne (same_key-true session_order other session is))
    at false is = ap (λ b. cond b (Some (insert (overlay_of session l) place left)) (get l.overlays other)) is

pub IsOnlyWriterAt-wrote : (session : ℕ) (place : RowPlace) (left : Option Tuple) (l : Layers) (p : RowPlace) → IsOnlyWriterAt session p l
    → IsOnlyWriterAt session p (wrote session place left l)
IsOnlyWriterAt-wrote session place left l p alone = λ other ne. ap (λ (o : Overlay). get o p) (overlay-kept session place left l other ne) ∙ alone other ne

pub WritesAlone-wrote : (session : ℕ) (place : RowPlace) (left : Option Tuple) (ws : List Write) (l : Layers) → WritesAlone session ws l
    → WritesAlone session ws (wrote session place left l)
WritesAlone-wrote session place left [] l alone = alone
WritesAlone-wrote session place left (w ∷ ws) l alone = (
  IsOnlyWriterAt-wrote session place left l w.place alone.0,
  WritesAlone-wrote session place left ws l alone.1,
)

-- ---- no other session has written where a statement writes

each-alone : (session : ℕ) (l : Layers) (ws : List Write) → Each (λ (w : Write). IsOnlyWriterAt session w.place l) ws → WritesAlone session ws l
each-alone session l [] h = tt
each-alone session l (w ∷ ws) h = (h.0, each-alone session l ws h.1)

on_gives : (e : Effect) (P : List Write → Type 0) (events : List Event) (ws : List Write) → Gives events ws ≡ e → OnGives e P → P ws
on_gives e P events ws is h = subst (λ (f : Effect). OnGives f P) (sym is) h

pub writes-alone : (session : ℕ) (st : Bound) (l : Layers) (rows : Rows') (events : List Event) (ws : List Write) → SeesAlone session st l → Gives events ws
    ≡ effect st rows → WritesAlone session ws l
writes-alone session st l rows events ws sees is =
    each-alone session l ws (on_gives (effect st rows) (Each (λ (w : Write). IsOnlyWriterAt session w.place l)) events ws is
    (effect-each (λ p. IsOnlyWriterAt session p l) st rows sees))

-- ---- what a statement may look at

-- a select writes nothing
select-each : (R : Write → Type 0) (t : ℕ) (key : Option Value) (c : Condition) (by : List SortKey) (out : Output) (lock : RowLock) (rows : Rows')
    → OnGives (effect (Select t key c by out lock) rows) (Each R)
unfolding effect
select-each R t key c by out lock rows = on-selected R by out (matching c (entries (visible (Select t key c by out lock) rows)))

pub writes-may : (session : ℕ) (st : Bound) (l : Layers) (rows : Rows') (events : List Event) (ws : List Write) → MayLook session st l → Gives events ws
    ≡ effect st rows → WritesAlone session ws l
writes-may session (Select t key c by out lock) l rows events ws may is =
    each-alone session l ws (on_gives (effect (Select t key c by out lock) rows) (Each (λ (w : Write). IsOnlyWriterAt session w.place l)) events ws is
    (select-each (λ (w : Write). IsOnlyWriterAt session w.place l) t key c by out lock rows))
writes-may session (Insert t key new) l rows events ws may is = writes-alone session (Insert t key new) l rows events ws may is
writes-may session (Update t key sets c) l rows events ws may is = writes-alone session (Update t key sets c) l rows events ws may is
writes-may session (Delete t key c) l rows events ws may is = writes-alone session (Delete t key c) l rows events ws may is
writes-may session (Lock t m n) l rows events ws may is = writes-alone session (Lock t m n) l rows events ws (λ p h. absurd (cc h)) is
writes-may session (Begin level) l rows events ws may is = writes-alone session (Begin level) l rows events ws (λ p h. absurd (cc h)) is
writes-may session Commit l rows events ws may is = writes-alone session Commit l rows events ws (λ p h. absurd (cc h)) is
writes-may session Rollback l rows events ws may is = writes-alone session Rollback l rows events ws (λ p h. absurd (cc h)) is
writes-may session SetVariable l rows events ws may is = writes-alone session SetVariable l rows events ws (λ p h. absurd (cc h)) is

-- what is looked at alone may be looked at
pub may-alone : (session : ℕ) (st : Bound) (l : Layers) → SeesAlone session st l → MayLook session st l
may-alone session (Select t key c by out lock) l sees = tt
may-alone session (Insert t key new) l sees = sees
may-alone session (Update t key sets c) l sees = sees
may-alone session (Delete t key c) l sees = sees
may-alone session (Lock t m n) l sees = tt
may-alone session (Begin level) l sees = tt
may-alone session Commit l sees = tt
may-alone session Rollback l sees = tt
may-alone session SetVariable l sees = tt

-- and so may what asks for no lock
pub may-unlocked : (session : ℕ) (st : Bound) (l : Layers) → is_unlocked st ≡ true → MayLook session st l
may-unlocked session (Select t key c by out lock) l e = tt
may-unlocked session (Insert t key new) l e = absurd (cc e)
may-unlocked session (Update t key sets c) l e = absurd (cc e)
may-unlocked session (Delete t key c) l e = absurd (cc e)
may-unlocked session (Lock t m n) l e = tt
may-unlocked session (Begin level) l e = tt
may-unlocked session Commit l e = tt
may-unlocked session Rollback l e = tt
may-unlocked session SetVariable l e = tt

-- a statement that is no select looks where it may alone
pub alone-may : (session : ℕ) (st : Bound) (l : Layers) → MayLook session st l
    → ((t : ℕ) (key : Option Value) (c : Condition) (by : List SortKey) (out : Output) (lock : RowLock) → st ≡ Select t key c by out lock → ⊥)
    → SeesAlone session st l
alone-may session (Select t key c by out lock) l may other = absurd (other t key c by out lock refl)
alone-may session (Insert t key new) l may other = may
alone-may session (Update t key sets c) l may other = may
alone-may session (Delete t key c) l may other = may
alone-may session (Lock t m n) l may other = λ p h. absurd (cc h)
alone-may session (Begin level) l may other = λ p h. absurd (cc h)
alone-may session Commit l may other = λ p h. absurd (cc h)
alone-may session Rollback l may other = λ p h. absurd (cc h)
alone-may session SetVariable l may other = λ p h. absurd (cc h)

-- ---- stores that session 0 alone has written

pub no_rows-alone : IsAlone no_rows
no_rows-alone = record {
  each = λ p other ne. ap (λ (o : Option Overlay). get (unwrap_or o empty) p) (get-empty session_order Overlay other)
      ∙ get-empty place_order (Option Tuple) p;
}

pub sees-alone : (s : Bound) (l : Layers) → IsAlone l → SeesAlone 0 s l
sees-alone s l alone = λ p h. alone.each p

wrote-alone : (place : RowPlace) (left : Option Tuple) (l : Layers) → IsAlone l → IsAlone (wrote 0 place left l)
wrote-alone place left l alone = record { each = λ p. IsOnlyWriterAt-wrote 0 place left l p (alone.each p) }

wrote_each-alone : (ws : List Write) (l : Layers) → IsAlone l → IsAlone (wrote_each 0 ws l)
wrote_each-alone [] l alone = alone
wrote_each-alone (w ∷ ws) l alone = wrote_each-alone ws (wrote 0 w.place w.left l) (wrote-alone w.place w.left l alone)

pub left_by-alone : (e : Effect) (l : Layers) → IsAlone l → IsAlone (left_by 0 e l)
left_by-alone (Gives events ws) l alone = wrote_each-alone ws l alone
left_by-alone (Faults f) l alone = alone
