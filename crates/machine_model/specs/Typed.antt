-- Rows that fit their tables, in the worlds of a run, and what statements take of them.
use Rattle.std.specs.Prelude.{◌≡◌, ℕ, suc, ◌<◌, ⊤, List, [], ◌∷◌, Option, Some, None, pos}
use Rattle.std.specs.List.{All}
use Rattle.finite_maps.specs.Map.{entries}
use Rattle.lock_modes.specs.RowPlace.{RowPlace}
use Rattle.lock_modes.specs.Rows.{Tuple, Rows'}
use Rattle.lock_modes.specs.declared.value.Value.{Value}
use Rattle.lock_modes.specs.declared.value.Value.TheVariants.{Int}
use Rattle.row_tables.specs.Overlay.{lay}
use Rattle.bound_statements.specs.Plan.{key_at}
use Rattle.bound_statements.specs.declared.statement.Bound.{Bound}
use Rattle.bound_statements.specs.declared.statement.Bound.TheVariants.{Insert}
use Rattle.binding_model.specs.declared.tables.Table.{Table}
use Rattle.bound_specs.specs.Fits.{OfTable, RowFits, ValueIn, Takes, Fits, SpecFits}
use Rattle.bound_specs.specs.Spec.{Spec}
use Rattle.binding_model.specs.Tables.{key_column}
use Rattle.statement_evaluation.specs.Effect.{visible, next_number}
use Rattle.machine_model.specs.Start.{Started, start}
use Rattle.machine_model.specs.Session.{Session, Task, Ask, Do, Goes, Fails, perform}
use Rattle.machine_model.specs.Go.{taking}
use Rattle.machine_model.specs.World.{World, session_at, goes, send_all}

-- a row lies at its value in the key column, and in a table without one at a row number, which counts from 1
abbrev pub LiesAt : Option ℕ → Value → Tuple → Type 0
LiesAt (Some key) at row = at ≡ key_at key row
LiesAt None at row = (n : ℕ) × (at ≡ Int (pos (suc n)))

-- the row is one of the table that its place names, fits it, and lies where it belongs
abbrev pub EntryFits : List Table → RowPlace × Tuple → Type 0
EntryFits tables e = OfTable tables e.0.0 (λ t. RowFits t e.1 × LiesAt (key_column t) e.0.1 e.1)

abbrev pub RowsFit : List Table → Rows' → Type 0
RowsFit tables rows = All (EntryFits tables) (entries rows)

-- the rows that the session sees
abbrev pub seen_by : World → ℕ → Rows'
seen_by w c = lay (session_at w c).overlay w.rows

-- what is left at a place, if it is a row, fits its table
abbrev pub LeftFits : List Table → RowPlace → Option Tuple → Type 0
LeftFits tables p None = ⊤
LeftFits tables p (Some row) = EntryFits tables (p, row)

abbrev pub TaskFits : List Table → Task → Type 0
TaskFits tables (Ask nowait r m) = ⊤
TaskFits tables (Do st) = Fits tables st

-- what a session has written fits, and so do the statements that are left of its step
pub record SessionFits (tables : List Table) (s : Session) : Type 0 where
  pub overlay : All (λ (e : RowPlace × Option Tuple). LeftFits tables e.0 e.1) (entries s.overlay)
  pub rest : All (TaskFits tables) s.rest

pub record WorldFits (tables : List Table) (w : World) : Type 0 where
  pub rows : RowsFit tables w.rows
  pub sessions : (c : ℕ) → SessionFits tables (session_at w c)

-- each of these statements that is performed sees rows that fit
abbrev pub SeeFit : List Table → Session → Rows' → List Task → Type 0
SeeFit tables s rows [] = ⊤
SeeFit tables s rows (Ask nowait r m ∷ ts) = SeeFit tables (taking s r m) rows ts
SeeFit tables s rows (Do st ∷ ts) = RowsFit tables (lay s.overlay rows) × elim (perform s rows st) [ Goes s2 rows2 ↦ SeeFit tables s2 rows2 ts | Fails f ↦ ⊤ ]

-- wherever a session goes, in a setup, with a step or when its wait is granted: from a world that fits it comes to one that fits, and each
-- statement on the way sees rows that fit
abbrev pub GoingKeepsFit : Type 0
GoingKeepsFit =
    (tables : List Table) (w : World) (i : ℕ) (s : Session) (ts : List Task) → WorldFits tables w → SessionFits tables s → All (TaskFits tables) ts
    → SeeFit tables s w.rows ts × WorldFits tables (goes w i s ts)

-- every world of a line of a spec whose statements fit the tables fits
abbrev pub WorldsFit : Type 0
WorldsFit =
    (tables : List Table) (spec : Spec) (w : World) (ks : List ℕ) → SpecFits tables spec → start spec ≡ Started w → WorldFits tables (send_all spec.steps w ks)

-- in every world of a line of a spec whose statements fit the tables, each row that a session sees fits its table
abbrev pub RowsSeenFit : Type 0
RowsSeenFit =
    (tables : List Table) (spec : Spec) (w : World) (ks : List ℕ) (c : ℕ) → SpecFits tables spec → start spec ≡ Started w
    → RowsFit tables (seen_by (send_all spec.steps w ks) c)

-- a statement that fits takes of each row that it looks at what is there, of the type that it takes: its conditions, expressions, sort keys, outputs
-- and sums meet none of the defaults of evaluation
abbrev pub NoDefaultIsMet : Type 0
NoDefaultIsMet =
    (tables : List Table) (st : Bound) (rows : Rows') → Fits tables st → RowsFit tables rows
    → All (λ (e : RowPlace × Tuple). Takes (ValueIn e.1) st) (entries (visible st rows))

-- the number that a new row gets in a table without a key is past those of all rows there
abbrev pub NumbersAreNew : Type 0
NumbersAreNew =
    (tables : List Table) (t : ℕ) (new : List Tuple) (rows : Rows') → Fits tables (Insert t None new) → RowsFit tables rows
    → let there = entries (visible (Insert t None new) rows) in
    All (λ (e : RowPlace × Tuple). (n : ℕ) × ((e.0.1 ≡ Int (pos n)) × (n < next_number 1 there))) there
