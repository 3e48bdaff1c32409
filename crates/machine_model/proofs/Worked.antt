-- Worked runs of the machine, computed.
use Rattle.std.proofs.Common.{◌≡◌, refl, ℕ, true, false, List, [], ◌∷◌, Some, None, pos}
use Rattle.finite_maps.specs.Map.{get, insert, keep, remove, entries, empty}
use Rattle.statement_evaluation.specs.Effect.{effect}
use Rattle.row_tables.specs.Overlay.{lay}
use Rattle.bound_specs.specs.Spec.{Step, Spec}
use Rattle.machine_model.specs.Start.{Started, start}
use Rattle.machine_model.specs.World.{send_all, outcome_of}
use Rattle.lock_modes.specs.declared.mode.Mode.TheVariants.{Share, Exclusive}
use Rattle.lock_modes.specs.declared.value.Value.{Value}
use Rattle.lock_modes.specs.declared.value.Value.TheVariants.{Int}
use Rattle.events.specs.declared.event.Event.{Event}
use Rattle.events.specs.declared.event.Event.TheVariants.{Sent, Row as RowEvent, Rows, Inserted, Updated, Deleted, Began, Committed, RolledBack, Locked, Warned}
use Rattle.events.specs.declared.event.Event.TheVariants.{Failed, Waiting, Resumed, Done, NotSent}
use Rattle.events.specs.declared.event.Warning.TheVariants.{InBlock, NoBlock}
use Rattle.events.specs.declared.event.Fault.TheVariants.{Duplicate, OutOfRange, Deadlock, Aborted, Unavailable}
use Rattle.bound_statements.specs.declared.expression.Operand.{Operand}
use Rattle.bound_statements.specs.declared.expression.Operand.TheVariants.{Literal, Column}
use Rattle.bound_statements.specs.declared.expression.AddSign.TheVariants.{Plus}
use Rattle.bound_statements.specs.declared.expression.Expression.{Expression}
use Rattle.bound_statements.specs.declared.condition.Comparison.TheVariants.{Same}
use Rattle.bound_statements.specs.declared.condition.Condition.{Condition}
use Rattle.bound_statements.specs.declared.condition.Condition.TheVariants.{Always, Compares}
use Rattle.bound_statements.specs.declared.statement.Aggregate.TheVariants.{Count, Sum}
use Rattle.bound_statements.specs.declared.statement.Level.{Level}
use Rattle.bound_statements.specs.declared.statement.Level.TheVariants.{Serializable, Committed as AtCommitted}
use Rattle.bound_statements.specs.declared.statement.Order.TheVariants.{Falls}
use Rattle.bound_statements.specs.declared.statement.Output.TheVariants.{Columns, Aggregates}
use Rattle.bound_statements.specs.declared.statement.RowLock.{RowLock}
use Rattle.bound_statements.specs.declared.statement.Bound.{Bound}
use Rattle.bound_statements.specs.declared.statement.Bound.TheVariants.{Select, Insert, Update, Delete, Begin, Commit, Rollback, Lock}

abbrev pub number : ℕ → Value
number n = Int (pos n)

-- an operand, and a sum of two
abbrev pub alone : Operand → Expression
alone o = record { first = record { first = o; more = [] }; more = [] }

abbrev pub plus : Operand → Operand → Expression
plus a b = record { first = record { first = a; more = [] }; more = record { sign = Plus; product = record { first = b; more = [] } } ∷ [] }

abbrev pub id_is : ℕ → Condition
id_is n = Compares (alone (Column 0)) Same (alone (Literal (number n)))

-- a select that locks no more than it reads
abbrev pub shares : RowLock
shares = record { exclusive = false; nowait = false; level = None }

-- a step of the session with one statement
abbrev pub step : ℕ → Bound → Step
step i s = record { session = i; statements = s ∷ [] }

-- two rows, (1, 10) and (2, 20), in table 0
abbrev pub two_rows : List Bound
two_rows = Insert 0 (Some 0) ((number 1 ∷ number 10 ∷ []) ∷ (number 2 ∷ number 20 ∷ []) ∷ []) ∷ []

-- SET v = v + n WHERE id = k
abbrev pub adds : ℕ → ℕ → Bound
adds k n = Update 0 (Some (number k)) (record { column = 1; value = plus (Column 1) (Literal (number n)) } ∷ []) (id_is k)

-- SET v = n WHERE id = k
abbrev pub sets : ℕ → ℕ → Bound
sets k n = Update 0 (Some (number k)) (record { column = 1; value = alone (Literal (number n)) } ∷ []) (id_is k)

abbrev pub transcripts : Spec → List ℕ → List (List Event)
transcripts spec ks = elim (start spec) [ Started w ↦ outcome_of spec.sessions (send_all spec.steps w ks) | _ ↦ [] ]

abbrev pub in_blocks : ℕ → List Step → Spec
in_blocks n steps = record { sessions = n; steps = steps; setups = two_rows ∷ []; lines = []; session_setups = (Begin None ∷ []) ∷ (Begin None ∷ []) ∷ [] }

abbrev pub waits_row : Spec
waits_row = in_blocks 2 (step 0 (adds 1 1) ∷ step 0 Commit ∷ step 1 (adds 1 10) ∷ step 1 Commit ∷ [])

-- a waiter resumes when the holder commits, and a step sent to it meanwhile is not sent
waits_row_is : transcripts waits_row (0 ∷ 2 ∷ 3 ∷ 1 ∷ [])
    ≡ (Sent 0 ∷ Updated 1 ∷ Done ∷ Sent 1 ∷ Committed ∷ Done ∷ []) ∷ (Sent 2 ∷ Waiting ∷ NotSent 3 ∷ Resumed ∷ Updated 1 ∷ Done ∷ []) ∷ []
unfolding get insert keep remove entries empty effect lay
waits_row_is = refl

abbrev pub ring_row : Spec
ring_row = in_blocks 2 (step 0 (sets 1 0) ∷ step 0 (sets 2 0) ∷ step 1 (sets 2 0) ∷ step 1 (sets 1 0) ∷ [])

-- the request that would close a ring is refused, and its locks wake the other
ring_row_is : transcripts ring_row (0 ∷ 2 ∷ 1 ∷ 3 ∷ [])
    ≡ (Sent 0 ∷ Updated 1 ∷ Done ∷ Sent 1 ∷ Waiting ∷ Resumed ∷ Updated 1 ∷ Done ∷ []) ∷ (Sent 2 ∷ Updated 1 ∷ Done ∷ Sent 3 ∷ Failed Deadlock ∷ Done ∷ []) ∷ []
unfolding get insert keep remove entries empty effect lay
ring_row_is = refl

-- every row: SELECT *
abbrev pub all_rows : Bound
all_rows = Select 0 None Always [] (Columns (0 ∷ 1 ∷ [])) shares

abbrev pub waiters_row : Spec
waiters_row =
    record {
      sessions = 3;
      steps = step 0 (Select 0 (Some (number 1)) (id_is 1) [] (Columns (1 ∷ [])) shares) ∷ step 0 all_rows ∷ step 1 all_rows ∷ step 1 Commit ∷ step 2 (sets 2 5) ∷ [];
      setups = two_rows ∷ [];
      lines = [];
      session_setups = (Begin None ∷ []) ∷ (Begin None ∷ []) ∷ [] ∷ [];
    }

-- a reader that comes after the waiting writer but holds the table already passes it
waiters_row_first : transcripts waiters_row (0 ∷ 2 ∷ 4 ∷ 1 ∷ 3 ∷ [])
    ≡ (Sent 0 ∷ RowEvent (number 10 ∷ []) ∷ Rows 1 ∷ Done ∷ Sent 1 ∷ RowEvent (number 1 ∷ number 10 ∷ []) ∷ RowEvent (number 2 ∷ number 20 ∷ []) ∷ Rows 2 ∷ Done
    ∷ [])
    ∷ (Sent 2 ∷ RowEvent (number 1 ∷ number 10 ∷ []) ∷ RowEvent (number 2 ∷ number 20 ∷ []) ∷ Rows 2 ∷ Done ∷ Sent 3 ∷ Committed ∷ Done ∷ [])
    ∷ (Sent 4 ∷ Waiting ∷ []) ∷ []
unfolding get insert keep remove entries empty effect lay
waiters_row_first = refl

waiters_row_second : transcripts waiters_row (0 ∷ 2 ∷ 4 ∷ 3 ∷ 1 ∷ [])
    ≡ (Sent 0 ∷ RowEvent (number 10 ∷ []) ∷ Rows 1 ∷ Done ∷ Sent 1 ∷ RowEvent (number 1 ∷ number 10 ∷ []) ∷ RowEvent (number 2 ∷ number 5 ∷ []) ∷ Rows 2 ∷ Done
    ∷ [])
    ∷ (Sent 2 ∷ RowEvent (number 1 ∷ number 10 ∷ []) ∷ RowEvent (number 2 ∷ number 20 ∷ []) ∷ Rows 2 ∷ Done ∷ Sent 3 ∷ Committed ∷ Done ∷ [])
    ∷ (Sent 4 ∷ Waiting ∷ Resumed ∷ Updated 1 ∷ Done ∷ []) ∷ []
unfolding get insert keep remove entries empty effect lay
waiters_row_second = refl

abbrev pub deletes : Bound → Spec
deletes ending =
    record {
      sessions = 2;
      steps = step 0 (Delete 0 (Some (number 1)) (id_is 1)) ∷ step 0 ending ∷ step 1 (Insert 0 (Some 0) ((number 1 ∷ number 7 ∷ []) ∷ [])) ∷ [];
      setups = two_rows ∷ [];
      lines = [];
      session_setups = (Begin None ∷ []) ∷ [] ∷ [];
    }

delete_commits : transcripts (deletes Commit) (0 ∷ 2 ∷ 1 ∷ [])
    ≡ (Sent 0 ∷ Deleted 1 ∷ Done ∷ Sent 1 ∷ Committed ∷ Done ∷ []) ∷ (Sent 2 ∷ Waiting ∷ Resumed ∷ Inserted 1 ∷ Done ∷ []) ∷ []
unfolding get insert keep remove entries empty effect lay
delete_commits = refl

delete_rolls_back : transcripts (deletes Rollback) (0 ∷ 2 ∷ 1 ∷ [])
    ≡ (Sent 0 ∷ Deleted 1 ∷ Done ∷ Sent 1 ∷ RolledBack ∷ Done ∷ []) ∷ (Sent 2 ∷ Waiting ∷ Resumed ∷ Failed Duplicate ∷ Done ∷ []) ∷ []
unfolding get insert keep remove entries empty effect lay
delete_rolls_back = refl

abbrev pub deletes_and_reads : Spec
deletes_and_reads =
    record (deletes Commit) {
      steps = step 0 (Delete 0 (Some (number 1)) (id_is 1)) ∷ record {
        session = 0;
        statements = Commit ∷ Select 0 (Some (number 1)) (id_is 1) [] (Columns (1 ∷ [])) shares ∷ [];
      } ∷ step 1 (Insert 0 (Some 0) ((number 1 ∷ number 7 ∷ []) ∷ [])) ∷
          [];
    }

-- no wait is granted while another session's step still runs
delete_and_read : transcripts deletes_and_reads (0 ∷ 2 ∷ 1 ∷ [])
    ≡ (Sent 0 ∷ Deleted 1 ∷ Done ∷ Sent 1 ∷ Committed ∷ Waiting ∷ Resumed ∷ RowEvent (number 7 ∷ []) ∷ Rows 1 ∷ Done ∷ []) ∷
    (Sent 2 ∷ Waiting ∷ Resumed ∷ Inserted 1 ∷ Done ∷ []) ∷ []
unfolding get insert keep remove entries empty effect lay
delete_and_read = refl

abbrev pub duplicate_row : Spec
duplicate_row =
    record {
      sessions = 1;
      steps = record {
        session = 0;
        statements = Insert 0 (Some 0) ((number 3 ∷ number 0 ∷ []) ∷ []) ∷ Insert 0 (Some 0) ((number 3 ∷ number 1 ∷ []) ∷ []) ∷
            all_rows ∷ [];
      }
          ∷ step 0 (Select 0 None Always [] (Aggregates (Count ∷ Sum 1 ∷ [])) shares) ∷ [];
      setups = two_rows ∷ [];
      lines = [];
      session_setups = [] ∷ [];
    }

duplicate_row_is : transcripts duplicate_row (0 ∷ 1 ∷ [])
    ≡ (Sent 0 ∷ Inserted 1 ∷ Failed Duplicate ∷ Done ∷ Sent 1 ∷ RowEvent (number 2 ∷ number 30 ∷ []) ∷ Rows 1 ∷ Done ∷ []) ∷ []
unfolding get insert keep remove entries empty effect lay
duplicate_row_is = refl

-- ORDER BY: by a column that falls, ties in the order of the keys
abbrev pub ordered_row : Spec
ordered_row =
    record {
      sessions = 1;
      steps = step 0 (Insert 0 (Some 0) ((number 3 ∷ number 20 ∷ []) ∷ [])) ∷ step 0
          (Select 0 None Always (record { column = 1; order = Falls } ∷ []) (Columns (0 ∷ 1 ∷ [])) shares) ∷ [];
      setups = two_rows ∷ [];
      lines = [];
      session_setups = [] ∷ [];
    }

ordered_row_is : transcripts ordered_row (0 ∷ 1 ∷ [])
    ≡ (Sent 0 ∷ Inserted 1 ∷ Done ∷ Sent 1 ∷ RowEvent (number 2 ∷ number 20 ∷ []) ∷ RowEvent (number 3 ∷ number 20 ∷ []) ∷ RowEvent (number 1 ∷ number 10 ∷ [])
    ∷ Rows 3 ∷ Done ∷ []) ∷ []
unfolding get insert keep remove entries empty effect lay
ordered_row_is = refl

abbrev pub range_row : Spec
range_row =
    record {
      sessions = 1;
      steps = step 0 (Update 0 None (record { column = 1; value = plus (Literal (number 9223372036854775807)) (Column 1) } ∷ []) Always) ∷ step 0 all_rows ∷
          step 0 Commit ∷ step 0 Commit ∷ [];
      setups = two_rows ∷ [];
      lines = [];
      session_setups = (Begin None ∷ []) ∷ [];
    }

range_row_is : transcripts range_row (0 ∷ 1 ∷ 2 ∷ 3 ∷ [])
    ≡ (Sent 0 ∷ Failed OutOfRange ∷ Done ∷ Sent 1 ∷ Failed Aborted ∷ Done ∷ Sent 2 ∷ RolledBack ∷ Done ∷ Sent 3 ∷ Warned NoBlock ∷ Committed ∷ Done ∷ []) ∷ []
unfolding get insert keep remove entries empty effect lay
range_row_is = refl

abbrev pub upgrade_row : Spec
upgrade_row = in_blocks 2 (step 0 (Lock 0 Share false) ∷ step 0 (Lock 0 Exclusive false) ∷ step 1 (Lock 0 Share false) ∷ step 1 (Lock 0 Exclusive false) ∷ [])

-- two conversions would wait for each other
upgrade_row_is : transcripts upgrade_row (0 ∷ 2 ∷ 1 ∷ 3 ∷ [])
    ≡ (Sent 0 ∷ Locked ∷ Done ∷ Sent 1 ∷ Waiting ∷ Resumed ∷ Locked ∷ Done ∷ []) ∷ (Sent 2 ∷ Locked ∷ Done ∷ Sent 3 ∷ Failed Deadlock ∷ Done ∷ []) ∷ []
unfolding get insert keep remove entries empty effect lay
upgrade_row_is = refl

-- SELECT v FROM t WHERE id = 1, with this lock
abbrev pub reads_one : RowLock → Bound
reads_one lock = Select 0 (Some (number 1)) (id_is 1) [] (Columns (1 ∷ [])) lock

abbrev pub not_waiting_row : Spec
not_waiting_row =
    in_blocks 2 (step 0 (reads_one (record { exclusive = true; nowait = false; level = None })) ∷ step 0 Commit
    ∷ step 1 (reads_one (record { exclusive = false; nowait = true; level = None })) ∷ step 1 Commit ∷ [])

-- a statement that refuses to wait has its locks where they are free
not_waiting_row_first : transcripts not_waiting_row (0 ∷ 1 ∷ 2 ∷ 3 ∷ [])
    ≡ (Sent 0 ∷ RowEvent (number 10 ∷ []) ∷ Rows 1 ∷ Done ∷ Sent 1 ∷ Committed ∷ Done ∷ [])
    ∷ (Sent 2 ∷ RowEvent (number 10 ∷ []) ∷ Rows 1 ∷ Done ∷ Sent 3 ∷ Committed ∷ Done ∷ []) ∷ []
unfolding get insert keep remove entries empty effect lay
not_waiting_row_first = refl

-- and fails where it would wait
not_waiting_row_second : transcripts not_waiting_row (0 ∷ 2 ∷ 1 ∷ 3 ∷ [])
    ≡ (Sent 0 ∷ RowEvent (number 10 ∷ []) ∷ Rows 1 ∷ Done ∷ Sent 1 ∷ Committed ∷ Done ∷ [])
    ∷ (Sent 2 ∷ Failed Unavailable ∷ Done ∷ Sent 3 ∷ RolledBack ∷ Done ∷ []) ∷ []
unfolding get insert keep remove entries empty effect lay
not_waiting_row_second = refl

abbrev pub ring_or_not : Spec
ring_or_not = in_blocks 2 (step 0 (Lock 0 Share false) ∷ step 0 (Lock 0 Exclusive false) ∷ step 1 (Lock 0 Share false) ∷ step 1 (Lock 0 Exclusive true) ∷ [])

-- no ring is looked for where a statement refuses to wait
ring_or_not_is : transcripts ring_or_not (0 ∷ 2 ∷ 1 ∷ 3 ∷ [])
    ≡ (Sent 0 ∷ Locked ∷ Done ∷ Sent 1 ∷ Waiting ∷ Resumed ∷ Locked ∷ Done ∷ []) ∷ (Sent 2 ∷ Locked ∷ Done ∷ Sent 3 ∷ Failed Unavailable ∷ Done ∷ []) ∷ []
unfolding get insert keep remove entries empty effect lay
ring_or_not_is = refl

-- ---- READ COMMITTED, where it is asked for

-- a plain SELECT v WHERE id = 1
abbrev pub reads : Bound
reads = Select 0 (Some (number 1)) (id_is 1) [] (Columns (1 ∷ [])) (record { exclusive = false; nowait = false; level = Some AtCommitted })

-- both sessions read, write and commit in blocks: a at READ COMMITTED, b at a level
abbrev pub level_row : Level → Spec
level_row level = record {
  sessions = 2;
  steps = step 0 reads ∷ step 0 (sets 1 11) ∷ step 0 Commit ∷ step 1 reads ∷ step 1 (sets 1 12) ∷ step 1 Commit ∷ [];
  setups = two_rows ∷ [];
  lines = [];
  session_setups = (Begin (Some AtCommitted) ∷ []) ∷ (Begin (Some level) ∷ []) ∷ [];
}

-- an update is lost: both read 10, and nobody fails
lost_update : transcripts (level_row AtCommitted) (0 ∷ 3 ∷ 1 ∷ 4 ∷ 2 ∷ 5 ∷ [])
    ≡ (Sent 0 ∷ RowEvent (number 10 ∷ []) ∷ Rows 1 ∷ Done ∷ Sent 1 ∷ Updated 1 ∷ Done ∷ Sent 2 ∷ Committed ∷ Done ∷ [])
    ∷ (Sent 3 ∷ RowEvent (number 10 ∷ []) ∷ Rows 1 ∷ Done ∷ Sent 4 ∷ Waiting ∷ Resumed ∷ Updated 1 ∷ Done ∷ Sent 5 ∷ Committed ∷ Done ∷ []) ∷ []
unfolding get insert keep remove entries empty effect lay
lost_update = refl

-- what another session has not committed is not seen, and what it commits then is
beside_a_writer : transcripts (level_row AtCommitted) (1 ∷ 3 ∷ 2 ∷ 3 ∷ [])
    ≡ (Sent 1 ∷ Updated 1 ∷ Done ∷ Sent 2 ∷ Committed ∷ Done ∷ [])
    ∷ (Sent 3 ∷ RowEvent (number 10 ∷ []) ∷ Rows 1 ∷ Done ∷ Sent 3 ∷ RowEvent (number 11 ∷ []) ∷ Rows 1 ∷ Done ∷ []) ∷ []
unfolding get insert keep remove entries empty effect lay
beside_a_writer = refl

-- a session sees its own writes
own_writes : transcripts (level_row AtCommitted) (1 ∷ 0 ∷ []) ≡ (Sent 1 ∷ Updated 1 ∷ Done ∷ Sent 0 ∷ RowEvent (number 11 ∷ []) ∷ Rows 1 ∷ Done ∷ []) ∷ [] ∷ []
unfolding get insert keep remove entries empty effect lay
own_writes = refl

-- a block at SERIALIZABLE beside it waits to read
serializable_beside : transcripts (level_row Serializable) (1 ∷ 3 ∷ 2 ∷ [])
    ≡ (Sent 1 ∷ Updated 1 ∷ Done ∷ Sent 2 ∷ Committed ∷ Done ∷ [])
    ∷ (Sent 3 ∷ Waiting ∷ Resumed ∷ RowEvent (number 11 ∷ []) ∷ Rows 1 ∷ Done ∷ []) ∷ []
unfolding get insert keep remove entries empty effect lay
serializable_beside = refl

-- the level of a BEGIN counts from there on, that of another BEGIN in the block does not, and behind the block it is the default again
abbrev pub in_step_row : Spec
in_step_row = record {
  sessions = 2;
  steps = step 0 (sets 1 11)
      ∷ record { session = 1; statements = reads ∷ Begin (Some Serializable) ∷ Begin (Some AtCommitted) ∷ [] }
      ∷ step 1 reads ∷ record { session = 1; statements = Rollback ∷ reads ∷ [] } ∷ [];
  setups = two_rows ∷ [];
  lines = [];
  session_setups = (Begin (Some AtCommitted) ∷ []) ∷ [] ∷ [];
}

in_step_waits : transcripts in_step_row (0 ∷ 1 ∷ 2 ∷ [])
    ≡ (Sent 0 ∷ Updated 1 ∷ Done ∷ [])
    ∷ (Sent 1 ∷ RowEvent (number 10 ∷ []) ∷ Rows 1 ∷ Began ∷ Warned InBlock ∷ Began ∷ Done ∷ Sent 2 ∷ Waiting ∷ []) ∷ []
unfolding get insert keep remove entries empty effect lay
in_step_waits = refl

in_step_ends : transcripts in_step_row (0 ∷ 1 ∷ 3 ∷ [])
    ≡ (Sent 0 ∷ Updated 1 ∷ Done ∷ [])
    ∷ (Sent 1 ∷ RowEvent (number 10 ∷ []) ∷ Rows 1 ∷ Began ∷ Warned InBlock ∷ Began ∷ Done
    ∷ Sent 3 ∷ RolledBack ∷ RowEvent (number 10 ∷ []) ∷ Rows 1 ∷ Done ∷ []) ∷ []
unfolding get insert keep remove entries empty effect lay
in_step_ends = refl
