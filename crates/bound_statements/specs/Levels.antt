-- The levels of transactions, and what statements ask for at them.
use Rattle.std.specs.Prelude.{◌≡◌, ⊤, Bool, true, false, cond, List, [], Option, Some, None}
use Rattle.bound_statements.specs.declared.statement.Bound.{Bound}
use Rattle.bound_statements.specs.declared.statement.Bound.TheVariants.{Select, Insert, Update, Delete, Begin, Commit, Rollback, Lock, SetVariable}
use Rattle.bound_statements.specs.declared.statement.Level.{Level}
use Rattle.bound_statements.specs.declared.statement.Level.TheVariants.{Serializable, Committed}
use Rattle.bound_statements.specs.declared.statement.RowLock.{RowLock}
use Rattle.bound_statements.specs.Plan.{Request, plan}

abbrev pub is_committed : Option Level → Bool
is_committed None = false
is_committed (Some Serializable) = false
is_committed (Some Committed) = true

-- a plain select at READ COMMITTED, which asks for no lock
abbrev pub is_unlocked : Bound → Bool
is_unlocked (Select t key c by out lock) = is_committed lock.level
is_unlocked (Insert t key rows) = false
is_unlocked (Update t key sets c) = false
is_unlocked (Delete t key c) = false
is_unlocked (Lock t m nowait) = false
is_unlocked (Begin level) = false
is_unlocked Commit = false
is_unlocked Rollback = false
is_unlocked SetVariable = false

-- the requests that a statement asks for, of which its plan has all that it may ask for
abbrev pub asked : Bound → List Request
asked st = cond (is_unlocked st) [] (plan st)

-- ---- the level of a block

-- another level, or none, in place of the one that is there
abbrev pub changed_level : Option Level → Option Level → Option Level
changed_level new None = None
changed_level new (Some level) = new

-- so the lock of a plain select; any other one has no level and stays as it is
abbrev pub lock_at : Option Level → RowLock → RowLock
lock_at new lock = record { exclusive = lock.exclusive; nowait = lock.nowait; level = changed_level new lock.level }

-- the statement in a block of this level
abbrev pub at_level : Level → Bound → Bound
at_level level (Select t key c by out lock) = Select t key c by out (lock_at (Some level) lock)
at_level level (Insert t key rows) = Insert t key rows
at_level level (Update t key sets c) = Update t key sets c
at_level level (Delete t key c) = Delete t key c
at_level level (Lock t m nowait) = Lock t m nowait
at_level level (Begin named) = Begin named
at_level level Commit = Commit
at_level level Rollback = Rollback
at_level level SetVariable = SetVariable

-- the level of the block that a BEGIN makes
abbrev pub block_level : Option Level → Level
block_level None = Serializable
block_level (Some level) = level

-- ---- the levels that are asked for

-- a BEGIN that names no level has the one that is asked for; where none is, the one that it names has no effect
abbrev pub named_by : Option Level → Option Level → Option Level
named_by None named = None
named_by (Some level) None = Some level
named_by (Some level) (Some named) = Some named

-- a statement as it is written, where levels are asked for, with this one for each transaction that names none; or where they are not asked for
abbrev pub levelled : Option Level → Bound → Bound
levelled asked (Select t key c by out lock) = Select t key c by out (lock_at asked lock)
levelled asked (Insert t key rows) = Insert t key rows
levelled asked (Update t key sets c) = Update t key sets c
levelled asked (Delete t key c) = Delete t key c
levelled asked (Lock t m nowait) = Lock t m nowait
levelled asked (Begin named) = Begin (named_by asked named)
levelled asked Commit = Commit
levelled asked Rollback = Rollback
levelled asked SetVariable = SetVariable

-- the statement asks for its whole plan at each level, as all do where levels are not asked for
abbrev pub AsksAlways : Bound → Type 0
AsksAlways (Select t key c by out lock) = lock.level ≡ None
AsksAlways (Insert t key rows) = ⊤
AsksAlways (Update t key sets c) = ⊤
AsksAlways (Delete t key c) = ⊤
AsksAlways (Lock t m nowait) = ⊤
AsksAlways (Begin named) = ⊤
AsksAlways Commit = ⊤
AsksAlways Rollback = ⊤
AsksAlways SetVariable = ⊤
