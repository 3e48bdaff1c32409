-- Worked histories of the machine, computed.
use Rattle.std.proofs.Common.{◌≡◌, refl, ℕ, true, false, List, [], ◌∷◌, Some, None, map}
use Rattle.finite_maps.specs.Map.{get, insert, keep, remove, entries, empty}
use Rattle.statement_evaluation.specs.Effect.{effect}
use Rattle.row_tables.specs.Overlay.{lay}
use Rattle.bound_specs.specs.Spec.{Spec}
use Rattle.machine_model.specs.Start.{Started, start}
use Rattle.machine_model.specs.World.{send_all, session_at}
use Rattle.events.specs.declared.event.Event.TheVariants.{Row as RowEvent, Rows, Updated}
use Rattle.bound_statements.specs.Levels.{at_level}
use Rattle.bound_statements.specs.declared.statement.Level.TheVariants.{Serializable, Committed}
use Rattle.bound_statements.specs.declared.statement.Output.TheVariants.{Columns}
use Rattle.bound_statements.specs.declared.statement.Bound.{Bound}
use Rattle.bound_statements.specs.declared.statement.Bound.TheVariants.{Select, Begin, Commit, Lock, SetVariable}
use Rattle.lock_modes.specs.declared.mode.Mode.TheVariants.{Share}
use Rattle.machine_model.specs.declared.status.Status.TheVariants.{Outside, InBlock, Broken}
use Rattle.machine_model.proofs.Worked.{number, id_is, step, two_rows, adds, sets, in_blocks, all_rows, shares, level_row, reads as plain}
use Rattle.serial_history.specs.Reading.{Reading, read}
use Rattle.serial_history.specs.Serial.{Did, Transaction, locked_commit, History, send_all_told, start_told, after_setups}

-- the history of a line of the spec, and the world behind it
abbrev history : Spec → List ℕ → History
history spec ks = elim (start spec) [ Started w ↦ send_all_told spec.steps w ks (start_told spec) | _ ↦ start_told spec ]

abbrev commits : Spec → List ℕ → List Transaction
commits spec ks = (history spec ks).commits

-- what sessions are told, in their setups and then by their transcripts, read to the end
abbrev readings : Spec → List ℕ → List ℕ → List Reading
readings spec ks sessions =
    elim (start spec) [
      | Started w ↦ map (λ c. read (after_setups spec c) (session_at (send_all spec.steps w ks) c).transcript) sessions
      | _ ↦ []
    ]

-- SELECT v WHERE id = k
abbrev reads : ℕ → Bound
reads k = Select 0 (Some (number k)) (id_is k) [] (Columns (1 ∷ [])) shares

abbrev one_read : ℕ → ℕ → Did
one_read k v = record { status = InBlock Serializable; statement = reads k; events = RowEvent (number v ∷ []) ∷ Rows 1 ∷ [] }

abbrev one_added : ℕ → ℕ → Did
one_added k n = record { status = InBlock Serializable; statement = adds k n; events = Updated 1 ∷ [] }

-- ---- the lost update: two sessions add to one row

abbrev both_add : Spec
both_add = in_blocks 2 (step 0 (adds 1 1) ∷ step 0 Commit ∷ step 1 (adds 1 10) ∷ record { session = 1; statements = reads 1 ∷ Commit ∷ [] } ∷ [])

-- the second waits for the first one's commit, and neither sum is lost
both_add_commits : commits both_add (0 ∷ 2 ∷ 1 ∷ 3 ∷ [])
    ≡ record { session = 0; work = one_added 1 1 ∷ [] } ∷ record { session = 1; work = one_added 1 10 ∷ one_read 1 21 ∷ [] } ∷ []
unfolding get insert keep remove entries empty effect lay
both_add_commits = refl

abbrev both_write : Spec
both_write = in_blocks 2 (step 0 (reads 1) ∷ step 0 (adds 1 1) ∷ step 0 Commit ∷ step 1 (reads 1) ∷ step 1 (adds 1 10) ∷ step 1 Commit ∷ [])

-- where both read first, the second is refused its write, and what it read is dropped
both_write_commits : commits both_write (0 ∷ 3 ∷ 1 ∷ 4 ∷ 2 ∷ 5 ∷ []) ≡ record { session = 0; work = one_read 1 10 ∷ one_added 1 1 ∷ [] } ∷ []
unfolding get insert keep remove entries empty effect lay
both_write_commits = refl

both_write_read : readings both_write (0 ∷ 3 ∷ 1 ∷ 4 ∷ 2 ∷ 5 ∷ []) (0 ∷ 1 ∷ [])
    ≡ record {
      status = Outside;
      pending = [];
      ended = record { is_committed = true; events = RowEvent (number 10 ∷ []) ∷ Rows 1 ∷ Updated 1 ∷ [] } ∷ [];
    }
    ∷ record { status = Outside; pending = []; ended = record { is_committed = false; events = RowEvent (number 10 ∷ []) ∷ Rows 1 ∷ [] } ∷ [] } ∷ []
unfolding get insert keep remove entries empty effect lay
both_write_read = refl

-- ---- the deadlock: two sessions write two rows in two orders

abbrev two_orders : Spec
two_orders =
    in_blocks 2 (step 0 (adds 1 1) ∷ step 0 (adds 2 1) ∷ step 0 Commit
    ∷ step 1 (adds 2 5) ∷ step 1 (adds 1 5) ∷ record { session = 1; statements = Commit ∷ all_rows ∷ [] } ∷ [])

abbrev last_read : Did
last_read = record { status = Outside; statement = all_rows; events = RowEvent (number 1 ∷ number 11 ∷ []) ∷ RowEvent (number 2 ∷ number 21 ∷ []) ∷ Rows 2 ∷ [] }

-- who would close the ring is no commit, nor is the end of its block; what it reads behind that is
two_orders_commits : commits two_orders (0 ∷ 3 ∷ 1 ∷ 4 ∷ 2 ∷ 5 ∷ [])
    ≡ record { session = 0; work = one_added 1 1 ∷ one_added 2 1 ∷ [] } ∷ record { session = 1; work = last_read ∷ [] } ∷ []
unfolding get insert keep remove entries empty effect lay
two_orders_commits = refl

-- before the first commits: one has its work open, the other's is dropped and its block is broken
two_orders_read : readings two_orders (0 ∷ 3 ∷ 1 ∷ 4 ∷ []) (0 ∷ 1 ∷ [])
    ≡ record { status = InBlock Serializable; pending = Updated 1 ∷ Updated 1 ∷ []; ended = [] }
    ∷ record { status = Broken; pending = []; ended = record { is_committed = false; events = Updated 1 ∷ [] } ∷ [] } ∷ []
unfolding get insert keep remove entries empty effect lay
two_orders_read = refl

-- ---- one reads, one reads and commits, one updates

abbrev three_row : Spec
three_row =
    record {
      sessions = 3;
      steps = step 0 (reads 1) ∷ step 0 all_rows ∷ step 1 all_rows ∷ step 1 Commit ∷ step 2 (sets 2 5) ∷ [];
      setups = two_rows ∷ [];
      lines = [];
      session_setups = (Begin None ∷ []) ∷ (Begin None ∷ []) ∷ [] ∷ [];
    }

abbrev first_read : Did
first_read = record { status = InBlock Serializable; statement = all_rows; events = RowEvent (number 1 ∷ number 10 ∷ []) ∷ RowEvent (number 2 ∷ number 20 ∷ []) ∷ Rows 2 ∷ [] }

-- the commits are the reader's and then the writer's, and nothing else
three_row_commits : commits three_row (0 ∷ 2 ∷ 4 ∷ 3 ∷ 1 ∷ [])
    ≡ record { session = 1; work = first_read ∷ [] } ∷ record { session = 2; work = record { status = Outside; statement = sets 2 5; events = Updated 1 ∷ [] } ∷ [] } ∷ []
unfolding get insert keep remove entries empty effect lay
three_row_commits = refl

-- and so its transcripts tell it
three_row_read : readings three_row (0 ∷ 2 ∷ 4 ∷ 3 ∷ 1 ∷ []) (0 ∷ 1 ∷ 2 ∷ [])
    ≡ record {
      status = InBlock Serializable;
      pending = RowEvent (number 10 ∷ []) ∷ Rows 1 ∷ RowEvent (number 1 ∷ number 10 ∷ []) ∷ RowEvent (number 2 ∷ number 5 ∷ []) ∷ Rows 2 ∷ [];
      ended = [];
    }
    ∷ record { status = Outside; pending = []; ended = record { is_committed = true; events = first_read.events } ∷ [] }
    ∷ record { status = Outside; pending = []; ended = record { is_committed = true; events = Updated 1 ∷ [] } ∷ [] } ∷ []
unfolding get insert keep remove entries empty effect lay
three_row_read = refl

-- ---- what a session setup reads is part of the transaction that a step commits

abbrev setup_row : Spec
setup_row =
    record { sessions = 1; steps = step 0 Commit ∷ []; setups = two_rows ∷ []; lines = []; session_setups = (Begin None ∷ reads 1 ∷ []) ∷ [] }

setup_row_commits : commits setup_row (0 ∷ []) ≡ record { session = 0; work = one_read 1 10 ∷ [] } ∷ []
unfolding get insert keep remove entries empty effect lay
setup_row_commits = refl

setup_row_read : readings setup_row (0 ∷ []) (0 ∷ [])
    ≡ record { status = Outside; pending = []; ended = record { is_committed = true; events = RowEvent (number 10 ∷ []) ∷ Rows 1 ∷ [] } ∷ [] } ∷ []
unfolding get insert keep remove entries empty effect lay
setup_row_read = refl

-- ---- a block that only locks a table and sets a variable commits nothing

abbrev idle_row : Spec
idle_row = record setup_row { steps = step 0 (Lock 0 Share false) ∷ step 0 SetVariable ∷ step 0 Commit ∷ []; session_setups = (Begin None ∷ []) ∷ [] }

idle_row_commits : commits idle_row (0 ∷ 1 ∷ 2 ∷ []) ≡ []
unfolding get insert keep remove entries empty effect lay
idle_row_commits = refl

idle_row_read : readings idle_row (0 ∷ 1 ∷ 2 ∷ []) (0 ∷ []) ≡ record { status = Outside; pending = []; ended = [] } ∷ []
unfolding get insert keep remove entries empty effect lay
idle_row_read = refl

-- what was read and written of the row with key 1
abbrev read_of : ℕ → Did
read_of v = record { status = InBlock Committed; statement = plain; events = RowEvent (number v ∷ []) ∷ Rows 1 ∷ [] }

abbrev set_to : ℕ → Did
set_to v = record { status = InBlock Committed; statement = sets 1 v; events = Updated 1 ∷ [] }

-- ---- READ COMMITTED: both read, then both write, and an update is lost

lost_commits : commits (level_row Committed) (0 ∷ 3 ∷ 1 ∷ 4 ∷ 2 ∷ 5 ∷ [])
    ≡ record { session = 0; work = read_of 10 ∷ set_to 11 ∷ [] } ∷ record { session = 1; work = read_of 10 ∷ set_to 12 ∷ [] } ∷ []
unfolding get insert keep remove entries empty effect lay
lost_commits = refl

-- without what they read they are a serial run
lost_part : map locked_commit (commits (level_row Committed) (0 ∷ 3 ∷ 1 ∷ 4 ∷ 2 ∷ 5 ∷ []))
    ≡ record { session = 0; work = set_to 11 ∷ [] } ∷ record { session = 1; work = set_to 12 ∷ [] } ∷ []
unfolding get insert keep remove entries empty effect lay
lost_part = refl

abbrev at_serializable : Did → Did
at_serializable d = record d { status = InBlock Serializable }

-- a block at SERIALIZABLE beside one at READ COMMITTED keeps what it read
kept_part : map locked_commit (commits (level_row Serializable) (0 ∷ 3 ∷ 4 ∷ 5 ∷ 1 ∷ 2 ∷ []))
    ≡ record { session = 1; work = at_serializable (record (read_of 10) { statement = at_level Serializable plain }) ∷ at_serializable (set_to 12) ∷ [] } ∷ record { session = 0; work = set_to 11 ∷ [] } ∷ []
unfolding get insert keep remove entries empty effect lay
kept_part = refl
