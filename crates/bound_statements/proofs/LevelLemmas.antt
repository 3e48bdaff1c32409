-- A level changes neither what a statement may ask for nor what it looks at, and where a statement asks always it changes nothing.
use Rattle.std.specs.Prelude.{◌≡◌, true, false, cond, [], Option, Some, None}
use Rattle.std.proofs.Common.{refl, ap, sym, ◌∙◌}
use Rattle.lock_modes.specs.RowPlace.{RowPlace}
use Rattle.bound_statements.specs.declared.statement.Bound.{Bound}
use Rattle.bound_statements.specs.declared.statement.Bound.TheVariants.{Select, Insert, Update, Delete, Begin, Commit, Rollback, Lock, SetVariable}
use Rattle.bound_statements.specs.declared.statement.Level.{Level}
use Rattle.bound_statements.specs.declared.statement.Level.TheVariants.{Serializable}
use Rattle.bound_statements.specs.declared.statement.RowLock.{RowLock}
use Rattle.bound_statements.specs.Levels.{is_committed, is_unlocked, asked, changed_level, lock_at, at_level, levelled, AsksAlways}
use Rattle.bound_statements.specs.Plan.{plan, nowait, looks_at}

-- ---- what a level leaves as it is

pub plan-at : (l : Level) (st : Bound) → plan (at_level l st) ≡ plan st
plan-at l (Select t key c by out lock) = refl
plan-at l (Insert t key rows) = refl
plan-at l (Update t key sets c) = refl
plan-at l (Delete t key c) = refl
plan-at l (Lock t m n) = refl
plan-at l (Begin named) = refl
plan-at l Commit = refl
plan-at l Rollback = refl
plan-at l SetVariable = refl

pub nowait-at : (l : Level) (st : Bound) → nowait (at_level l st) ≡ nowait st
nowait-at l (Select t key c by out lock) = refl
nowait-at l (Insert t key rows) = refl
nowait-at l (Update t key sets c) = refl
nowait-at l (Delete t key c) = refl
nowait-at l (Lock t m n) = refl
nowait-at l (Begin named) = refl
nowait-at l Commit = refl
nowait-at l Rollback = refl
nowait-at l SetVariable = refl

pub looks-at : (l : Level) (st : Bound) (p : RowPlace) → looks_at (at_level l st) p ≡ looks_at st p
looks-at l (Select t key c by out lock) p = refl
looks-at l (Insert t key rows) p = refl
looks-at l (Update t key sets c) p = refl
looks-at l (Delete t key c) p = refl
looks-at l (Lock t m n) p = refl
looks-at l (Begin named) p = refl
looks-at l Commit p = refl
looks-at l Rollback p = refl
looks-at l SetVariable p = refl

-- ---- what a statement asks for

-- one that is not unlocked asks for its plan
pub asked-locked : (st : Bound) → is_unlocked st ≡ false → asked st ≡ plan st
asked-locked st e = ap (λ b. cond b [] (plan st)) e

pub asked-unlocked : (st : Bound) → is_unlocked st ≡ true → asked st ≡ []
asked-unlocked st e = ap (λ b. cond b [] (plan st)) e

-- ---- at SERIALIZABLE

serializable-level : (old : Option Level) → is_committed (changed_level (Some Serializable) old) ≡ false
serializable-level None = refl
serializable-level (Some level) = refl

-- no statement is unlocked in a block at SERIALIZABLE
pub serializable-locked : (st : Bound) → is_unlocked (at_level Serializable st) ≡ false
serializable-locked (Select t key c by out lock) = serializable-level lock.level
serializable-locked (Insert t key rows) = refl
serializable-locked (Update t key sets c) = refl
serializable-locked (Delete t key c) = refl
serializable-locked (Lock t m n) = refl
serializable-locked (Begin named) = refl
serializable-locked Commit = refl
serializable-locked Rollback = refl
serializable-locked SetVariable = refl

-- ---- statements that ask always

level-none : (new old : Option Level) → old ≡ None → changed_level new old ≡ old
level-none new old e = ap (changed_level new) e ∙ sym e

lock-none : (new : Option Level) (lock : RowLock) → lock.level ≡ None → lock_at new lock ≡ lock
lock-none new lock e = ap (λ (l : Option Level). record lock { level = l }) (level-none new lock.level e)

-- a level is nothing to them
pub always-at : (l : Level) (st : Bound) → AsksAlways st → at_level l st ≡ st
always-at l (Select t key c by out lock) e = ap (Select t key c by out) (lock-none (Some l) lock e)
always-at l (Insert t key rows) e = refl
always-at l (Update t key sets c) e = refl
always-at l (Delete t key c) e = refl
always-at l (Lock t m n) e = refl
always-at l (Begin named) e = refl
always-at l Commit e = refl
always-at l Rollback e = refl
always-at l SetVariable e = refl

pub always-locked : (st : Bound) → AsksAlways st → is_unlocked st ≡ false
always-locked (Select t key c by out lock) e = ap is_committed e
always-locked (Insert t key rows) e = refl
always-locked (Update t key sets c) e = refl
always-locked (Delete t key c) e = refl
always-locked (Lock t m n) e = refl
always-locked (Begin named) e = refl
always-locked Commit e = refl
always-locked Rollback e = refl
always-locked SetVariable e = refl

none-at : (old : Option Level) → changed_level None old ≡ None
none-at None = refl
none-at (Some l) = refl

-- where levels are not asked for, each statement asks always
pub levelled-always : (st : Bound) → AsksAlways (levelled None st)
levelled-always (Select t key c by out lock) = none-at lock.level
levelled-always (Insert t key rows) = tt
levelled-always (Update t key sets c) = tt
levelled-always (Delete t key c) = tt
levelled-always (Lock t m n) = tt
levelled-always (Begin named) = tt
levelled-always Commit = tt
levelled-always Rollback = tt
levelled-always SetVariable = tt
