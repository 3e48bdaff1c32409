-- The requests of a statement, from its text alone, and the rows that it looks at.
use Rattle.std.specs.Prelude.{ℕ, ◌<◌, ◌≤◌, ⊤, Bool, true, false, ◌&&◌, ◌||◌, List, [], ◌∷◌, ◌==◌, length, map, get_or, Option, Some, None, pos, All}
use Rattle.std.specs.List.{list_any}
use Rattle.finite_maps.specs.Map.{same_key}
use Rattle.lock_modes.specs.RowPlace.{RowPlace}
use Rattle.lock_modes.specs.Value.{value_order}
use Rattle.lock_modes.specs.Resource.{same_resource}
use Rattle.lock_modes.specs.declared.mode.Mode.{Mode}
use Rattle.lock_modes.specs.declared.mode.Mode.TheVariants.{IntentShare, IntentExclusive, Share, ShareIntent, Exclusive}
use Rattle.lock_modes.specs.declared.value.Value.{Value}
use Rattle.lock_modes.specs.declared.value.Value.TheVariants.{Int}
use Rattle.lock_modes.specs.declared.resource.Resource.{Resource}
use Rattle.lock_modes.specs.declared.resource.Resource.TheVariants.{Table, Row as RowOf}
use Rattle.bound_statements.specs.declared.statement.Bound.{Bound}
use Rattle.bound_statements.specs.declared.statement.Bound.TheVariants.{Select, Insert, Update, Delete, Begin, Commit, Rollback, Lock, SetVariable}

abbrev pub Tuple : Type 0
Tuple = List Value

pub record Request : Type 0 where
  pub resource : Resource
  pub mode : Mode

abbrev pub request : Resource → Mode → Request
request r m = record { resource = r; mode = m }

-- the key of a new row
abbrev pub key_at : ℕ → Tuple → Value
key_at c row = get_or row c (Int (pos 0))

-- one mode on the table
abbrev pub table_plan : ℕ → Mode → List Request
table_plan t m = request (Table t) m ∷ []

-- an intent on the table and then the mode on the row with a key that is named, or else the mode on the table
abbrev pub row_plan : ℕ → Option Value → Mode → Mode → List Request
row_plan t (Some key) intent m = request (Table t) intent ∷ request (RowOf t key) m ∷ []
row_plan t None intent m = table_plan t m

-- the key of a new row is written
abbrev pub key_lock : ℕ → ℕ → Tuple → Request
key_lock t k row = request (RowOf t (key_at k row)) Exclusive

-- an intent on the table and then the key of each row in the order of the statement
abbrev pub insert_plan : ℕ → ℕ → List Tuple → List Request
insert_plan t k rows = request (Table t) IntentExclusive ∷ map (key_lock t k) rows

-- a select FOR UPDATE asks for what a change of its rows asks for, and any other select for what it reads
abbrev pub select_intent : Bool → Mode
select_intent false = IntentShare
select_intent true = IntentExclusive

abbrev pub select_mode : Bool → Mode
select_mode false = Share
select_mode true = Exclusive

abbrev pub plan : Bound → List Request
plan (Select t key c by out lock) = row_plan t key (select_intent lock.exclusive) (select_mode lock.exclusive)
plan (Insert t (Some k) rows) = insert_plan t k rows
plan (Insert t None rows) = table_plan t Exclusive
plan (Update t key sets c) = row_plan t key IntentExclusive Exclusive
plan (Delete t key c) = row_plan t key IntentExclusive Exclusive
plan (Lock t m nowait) = table_plan t m
plan (Begin level) = []
plan Commit = []
plan Rollback = []
plan SetVariable = []

-- the requests of the statement refuse to wait
abbrev pub nowait : Bound → Bool
nowait (Select t key c by out lock) = lock.nowait
nowait (Lock t m refuses) = refuses
nowait (Insert t k rows) = false
nowait (Update t key sets c) = false
nowait (Delete t key c) = false
nowait (Begin level) = false
nowait Commit = false
nowait Rollback = false
nowait SetVariable = false

-- a statement asks for no more than a byte can count
abbrev pub IsShort : Bound → Type 0
IsShort st = length (plan st) ≤ 255

-- a new row has its key
abbrev pub HasKey : ℕ → Tuple → Type 0
HasKey k row = k < length row

-- each new row has its key
abbrev pub HasKeys : Bound → Type 0
HasKeys (Insert t (Some k) rows) = All (HasKey k) rows
HasKeys s = ⊤

-- a mode on a table that lets all its rows be read, and one on a row that lets that row be read
abbrev pub reads_table : Mode → Bool
reads_table IntentShare = false
reads_table IntentExclusive = false
reads_table Share = true
reads_table ShareIntent = true
reads_table Exclusive = true

-- a mode on a table under which single rows are written
abbrev pub writes_in : Mode → Bool
writes_in IntentShare = false
writes_in IntentExclusive = true
writes_in Share = false
writes_in ShareIntent = true
writes_in Exclusive = true

abbrev pub is_exclusive : Mode → Bool
is_exclusive IntentShare = false
is_exclusive IntentExclusive = false
is_exclusive Share = false
is_exclusive ShareIntent = false
is_exclusive Exclusive = true

-- some request on the resource has a mode that passes
abbrev pub asks_on : List Request → Resource → (Mode → Bool) → Bool
asks_on qs r test = list_any (λ q. same_resource q.resource r && test q.mode) qs

-- the requests let the row at the place be read: by the table, or by the row below a mode on the table
abbrev pub opened : List Request → RowPlace → Bool
opened qs p = asks_on qs (Table p.0) reads_table || (asks_on qs (RowOf p.0 p.1) reads_table && asks_on qs (Table p.0) (λ _. true))

-- the row has the key that is named, or none is named
abbrev pub at_key : Option Value → Value → Bool
at_key None v = true
at_key (Some k) v = same_key value_order k v

-- the rows that a statement looks at, by its text alone: those of its table, and only the ones with a key that it names where it names one
abbrev pub looks_at : Bound → RowPlace → Bool
looks_at (Select t key c by out lock) p = (p.0 == t) && at_key key p.1
looks_at (Insert t (Some k) rows) p = (p.0 == t) && list_any (λ row. at_key (Some (key_at k row)) p.1) rows
looks_at (Insert t None rows) p = p.0 == t
looks_at (Update t key sets c) p = (p.0 == t) && at_key key p.1
looks_at (Delete t key c) p = (p.0 == t) && at_key key p.1
looks_at (Lock t m nowait) p = false
looks_at (Begin level) p = false
looks_at Commit p = false
looks_at Rollback p = false
looks_at SetVariable p = false
