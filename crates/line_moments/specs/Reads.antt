-- The reads of a session's open transaction, as its transcript tells them.
use Rattle.std.specs.Prelude.{ℕ, suc, Bool, true, false, cond, List, [], ◌∷◌, ◌++◌}
use Rattle.events.specs.declared.event.Event.{Event}
use Rattle.events.specs.declared.event.Event.TheVariants.{Sent, Row as RowEvent, Rows, Inserted, Updated, Deleted, Began, Committed, RolledBack}
use Rattle.events.specs.declared.event.Event.TheVariants.{Locked, Set, Warned, Failed, Waiting, Resumed, Done, NotSent}
use Rattle.events.specs.declared.event.Warning.{Warning}
use Rattle.events.specs.declared.event.Warning.TheVariants.{InBlock as AlreadyInBlock, NoBlock}
use Rattle.machine_model.specs.declared.status.Status.{Status}
use Rattle.machine_model.specs.declared.status.Status.TheVariants.{Outside, InBlock, Broken}
use Rattle.line_moments.specs.declared.reads.OpenRead.{OpenRead}
use Rattle.line_moments.specs.declared.reads.Reads.{Reads}

abbrev pub no_reads : Reads
no_reads = record { step = 0; place = 0; rows = []; is_warned = false; earlier = []; reads = [] }

abbrev pub begun : ℕ → Reads → Reads
begun step x = record x { step = step; place = 0; rows = []; is_warned = false }

-- a statement of the step has ended
abbrev pub one_ended : Reads → Reads
one_ended x = record x { place = suc x.place; rows = []; is_warned = false }

-- the step has ended, and what it read was read by an earlier step from now on
abbrev pub step_ended : Reads → Reads
step_ended x = record x { earlier = x.earlier ++ x.reads; reads = [] }

-- the transaction has ended
abbrev pub forgotten : Reads → Reads
forgotten x = record x { rows = []; earlier = []; reads = [] }

abbrev pub with_row : Event → Reads → Reads
with_row row x = record x { rows = x.rows ++ row ∷ [] }

-- a SELECT has ended, and told how many rows it showed
abbrev pub noted : Event → Reads → Reads
noted count x = record x { reads = x.reads ++ record { step = x.step; place = x.place; told = x.rows ++ count ∷ [] } ∷ [] }

-- a block begins: what its step read before is of the same transaction, and what earlier steps read is not; unless there is a block already
abbrev pub block_begun : Reads → Reads
block_begun x = record x { earlier = cond x.is_warned x.earlier [] }

abbrev pub is_in_block : Warning → Bool
is_in_block AlreadyInBlock = true
is_in_block NoBlock = false

-- what is told next
abbrev pub read_on : Reads → Event → Reads
read_on x (Sent k) = begun k x
read_on x (RowEvent r) = with_row (RowEvent r) x
read_on x (Rows n) = one_ended (noted (Rows n) x)
read_on x (Inserted n) = one_ended x
read_on x (Updated n) = one_ended x
read_on x (Deleted n) = one_ended x
read_on x Began = one_ended (block_begun x)
read_on x Committed = one_ended (forgotten x)
read_on x RolledBack = one_ended (forgotten x)
read_on x Locked = one_ended x
read_on x Set = one_ended x
read_on x (Warned w) = record x { is_warned = is_in_block w }
read_on x (Failed f) = forgotten x
read_on x Waiting = x
read_on x Resumed = x
read_on x Done = step_ended x
read_on x (NotSent k) = x

abbrev pub read_all : Reads → List Event → Reads
read_all x [] = x
read_all x (e ∷ es) = read_all (read_on x e) es

-- outside a block the transaction of the step that runs is open, and in a failed one none is
abbrev pub open_by : Status → Reads → List OpenRead
open_by Outside x = x.reads
open_by (InBlock level) x = x.earlier ++ x.reads
open_by Broken x = []

-- the SELECTs of the open transaction of a session that stands so with its block and was told this
abbrev pub open_reads : Status → List Event → List OpenRead
open_reads status es = open_by status (read_all no_reads es)
