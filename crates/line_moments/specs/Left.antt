-- What a line begins with and what it leaves: how each session stands, what it holds, and the committed rows of each declared table.
use Rattle.std.specs.Prelude.{◌≡◌, ◌↔◌, ℕ, zero, suc, ◌<◌, true, false, ⊤, All, List, [], ◌∷◌, ◌++◌, length, get_or, Option, Some, None, Ok}
use Rattle.std.specs.declared.cmp.Ordering.{Ordering}
use Rattle.std.specs.declared.cmp.Ordering.TheVariants.{Less}
use Rattle.finite_maps.specs.Map.{entries, get}
use Rattle.lock_modes.specs.declared.mode.Mode.{Mode}
use Rattle.lock_modes.specs.declared.resource.Resource.{Resource}
use Rattle.lock_modes.specs.Resource.{resource_cmp}
use Rattle.lock_modes.specs.RowPlace.{RowPlace}
use Rattle.lock_modes.specs.Rows.{Tuple}
use Rattle.lock_modes.specs.Value.{value_cmp}
use Rattle.lock_modes.specs.declared.value.Value.{Value}
use Rattle.lock_queues.specs.Locks.{waits_now}
use Rattle.row_tables.specs.Layers.{rows_of}
use Rattle.binding_model.specs.Tables.{no_table, key_column}
use Rattle.binding_model.specs.declared.tables.Table.{Table}
use Rattle.bound_specs.specs.Fits.{RowFits}
use Rattle.machine_model.specs.declared.status.Status.{Status}
use Rattle.machine_model.specs.declared.status.Status.TheVariants.{Outside, InBlock, Broken}
use Rattle.machine_model.specs.World.{World, look_of, session_at, send_all}
use Rattle.machine_model.specs.Start.{Started, start}
use Rattle.machine_model.specs.Typed.{LiesAt}
use Rattle.bound_specs.specs.Spec.{Spec, SpecFile}
use Rattle.bound_specs.specs.Binding.{IsFileAt, declared, main_setup}
use Rattle.bound_statements.specs.declared.statement.Bound.{Bound}
use Rattle.bound_statements.specs.declared.statement.Level.{Level}
use Rattle.lock_queues.specs.Reasons.{Want, Among, IsExact}
use Rattle.line_moments.specs.Moments.{line_moments, want_in}
use Rattle.line_moments.specs.declared.shown.Left.{Left}
use Rattle.line_moments.specs.declared.shown.Standing.{Standing}
use Rattle.line_moments.specs.declared.shown.Standing.TheVariants.{HasEnded, IsOpen, HasFailed, StillWaits}
use Rattle.line_moments.specs.declared.shown.Begun.{Begun}
use Rattle.line_moments.specs.declared.shown.Shown.{Shown}

-- of the tables numbered from n on
abbrev pub left_from : ℕ → List Table → World → List Left
left_from n [] w = []
left_from n (t ∷ ts) w = record { table = t; rows = rows_of n w.rows } ∷ left_from (suc n) ts w

abbrev pub left_in : List Table → World → List Left
left_in tables w = left_from 0 tables w

-- the rows without their keys
abbrev pub tuples_of : List (Value × Tuple) → List Tuple
tuples_of [] = []
tuples_of (e ∷ es) = e.1 ∷ tuples_of es

-- the rows of each table as its readers see them
abbrev pub rows_alone : List Left → List (List Tuple)
rows_alone [] = []
rows_alone (x ∷ xs) = tuples_of x.rows ∷ rows_alone xs

-- the same is left, though rows of a table without a key may lie at other numbers, which nobody sees
abbrev pub LeaveSame : List Left → List Left → Type 0
LeaveSame xs ys = rows_alone xs ≡ rows_alone ys

abbrev pub standing_by : Option Want → Status → Standing
standing_by (Some want) status = StillWaits want
standing_by None Outside = HasEnded
standing_by None (InBlock of) = IsOpen
standing_by None Broken = HasFailed

abbrev pub standing_of : World → ℕ → Standing
standing_of w i = standing_by (want_in w i) (session_at w i).status

-- of the sessions below the number, in their order
abbrev pub standings : ℕ → World → List Standing
standings zero w = []
standings (suc n) w = standings n w ++ standing_of w n ∷ []

abbrev pub begun_of : World → ℕ → Begun
begun_of w i = record { status = (session_at w i).status; locks = entries (session_at w i).held }

-- of the sessions below the number, in their order
abbrev pub begun : ℕ → World → List Begun
begun zero w = []
begun (suc n) w = begun n w ++ begun_of w n ∷ []

abbrev pub shown_from : List Table → Spec → World → List ℕ → Shown
shown_from tables spec w line =
    let v = send_all spec.steps w line in
    record {
      begun = begun spec.sessions w;
      first = left_in tables w;
      moments = line_moments spec.steps w line;
      left = left_in tables v;
      standings = standings spec.sessions v;
    }

-- nothing where the spec does not start
abbrev pub shown : List Table → Spec → List ℕ → Option Shown
shown tables spec line = elim (start spec) [ Started w ↦ Some (shown_from tables spec w line) | _ ↦ None ]

-- ---- what is told of a world

-- each key comes before those behind it
abbrev pub KeysRise : {K X : Type 0} → (K → K → Ordering) → List (K × X) → Type 0
KeysRise cmp [] = ⊤
KeysRise cmp (e ∷ es) = All (λ f. cmp e.0 f.0 ≡ Less) es × KeysRise cmp es

-- of table number n the world's committed rows, each at its key, and no others; they fit the table, and lie where they belong
pub record IsLeftOf (n : ℕ) (t : Table) (w : World) (x : Left) : Type 0 where
  pub table : x.table ≡ t
  pub rows : (key : Value) (row : Tuple) → Among (key, row) x.rows ↔ (get w.rows (n, key) ≡ Some row)
  pub rise : KeysRise value_cmp x.rows
  pub fit : All (λ (e : Value × Tuple). RowFits t e.1 × LiesAt (key_column t) e.0 e.1) x.rows

abbrev pub no_left : Left
no_left = record { table = no_table; rows = [] }

-- that of each table, in their order; and there is no row of another table
pub record IsLeftIn (tables : List Table) (w : World) (xs : List Left) : Type 0 where
  pub count : length xs ≡ length tables
  pub each : (n : ℕ) → n < length tables → IsLeftOf n (get_or tables n no_table) w (get_or xs n no_left)
  pub all : (p : RowPlace) (row : Tuple) → get w.rows p ≡ Some row → p.0 < length tables

-- so the session stands, and what is told of its wait is exact
abbrev pub IsStanding : World → ℕ → Standing → Type 0
IsStanding w c HasEnded = (waits_now w.waits c ≡ false) × ((session_at w c).status ≡ Outside)
IsStanding w c IsOpen = (waits_now w.waits c ≡ false) × ((level : Level) × ((session_at w c).status ≡ InBlock level))
IsStanding w c HasFailed = (waits_now w.waits c ≡ false) × ((session_at w c).status ≡ Broken)
IsStanding w c (StillWaits want) = (waits_now w.waits c ≡ true) × IsExact (look_of w) w.waits c want

-- of the sessions below the number, in their order
pub record AreStanding (n : ℕ) (w : World) (xs : List Standing) : Type 0 where
  pub count : length xs ≡ n
  pub each : (c : ℕ) → c < n → IsStanding w c (get_or xs c HasEnded)

-- the session's status, and each lock that it holds
pub record IsBegun (w : World) (c : ℕ) (x : Begun) : Type 0 where
  pub status : x.status ≡ (session_at w c).status
  pub locks : (r : Resource) (m : Mode) → Among (r, m) x.locks ↔ (look_of w c r ≡ Some m)
  pub rise : KeysRise resource_cmp x.locks

-- of the sessions below the number, in their order
pub record AreBegun (n : ℕ) (w : World) (xs : List Begun) : Type 0 where
  pub count : length xs ≡ n
  pub each : (c : ℕ) → c < n → IsBegun w c (get_or xs c (record { status = Outside; locks = [] }))

-- what is shown is the line of a spec that starts: what its setups left, the moments of the line from there, and what is left behind them
pub record IsShown (tables : List Table) (spec : Spec) (line : List ℕ) (x : Shown) : Type 0 where
  pub world : World
  pub starts : start spec ≡ Started world
  pub begun : AreBegun spec.sessions world x.begun
  pub first : IsLeftIn tables world x.first
  pub moments : x.moments ≡ line_moments spec.steps world line
  pub left : IsLeftIn tables (send_all spec.steps world line) x.left
  pub standings : AreStanding spec.sessions (send_all spec.steps world line) x.standings

-- what is shown of a line of a spec file, with the tables that its main setups declare
pub record IsShownOf (text : List ℕ) (file : SpecFile) (line : List ℕ) (x : Shown) : Type 0 where
  pub is : IsFileAt text file
  pub tables : List Table
  pub blocks : List (List Bound)
  pub declares : declared main_setup [] is.tree.front.setups ≡ Ok (tables, blocks)
  pub shows : shown tables file.run line ≡ Some x
