-- Looking at the history, notes, and the joining of seats.
use Rattle.std.specs.Prelude.{◌≡◌, ℕ, false, List, [], ◌∷◌, ◌++◌, length, None}
use mathlib.Core.List.{IsPrefix}
use Rattle.atomic_table.specs.Table.{Me, Step}
use Rattle.bound_specs.specs.Spec.{Spec, SpecFile}
use Rattle.fact_books.specs.Books.{empty_book}
use Rattle.shard_board.specs.declared.history.Entry.{Entry}
use Rattle.shard_board.specs.declared.rule.Part.{Part}
use Rattle.shard_board.specs.declared.rule.Plan.{Plan}
use Rattle.shard_board.specs.declared.rule.View.{View}
use Rattle.shard_board.specs.Sums.{Slot}
use Rattle.shard_board.specs.History.{IsLegal}
use Rattle.shard_board.specs.Turning.{seen_now}

abbrev pub seeing : View → List Entry → View
seeing v log = record { live = v.live; own = seen_now v.own log; told = v.told; joined = v.joined; ticket = v.ticket; holding = v.holding; plan = v.plan }

-- the history so far was seen
pub record Looked (m m' : Me Slot View) (found : ℕ) : Type 0 where
  pub slots : m'.1 ≡ m.1
  pub view : m'.0 ≡ seeing m.0 m'.0.own.seen
  pub legal : IsLegal m'.0.own.seen
  pub before : IsPrefix m.0.own.seen m'.0.own.seen
  pub told : IsPrefix m.0.told m'.0.own.seen
  pub long : length m'.0.own.seen ≡ found

abbrev pub Looks : Step Slot → Me Slot View → ℕ → Me Slot View → Type 0
Looks st m n m' = Looked m m' n

abbrev pub nobody : Part
nobody = record { number = 0; seen = []; calls = []; claims = []; refused = false }

-- a view that is no seat, and has seen this
abbrev pub telling : Plan → List Entry → View
telling plan log = record { live = false; own = seen_now nobody log; told = []; joined = []; ticket = None; holding = false; plan = plan }

abbrev pub keeps_all : View → View
keeps_all v = v

abbrev pub note_of : View → View
note_of v = telling v.plan v.own.seen

abbrev pub told_too : View → View → View
told_too v w = record { live = v.live; own = v.own; told = w.own.seen; joined = v.joined; ticket = v.ticket; holding = v.holding; plan = v.plan }

abbrev pub no_spec : Spec
no_spec = record { sessions = 0; steps = []; setups = []; session_setups = []; lines = [] }

abbrev pub no_file : SpecFile
no_file = record { text = []; session_names = []; step_names = []; asked = None; run = no_spec }

abbrev pub no_plan : Plan
no_plan = record { shards = 0; seats = 0; empty = empty_book no_file }

-- a view that nothing is known of any more
abbrev pub spent : View
spent = telling no_plan []

abbrev pub gathered : View → View → View
gathered v w = record { live = v.live; own = v.own; told = v.told; joined = v.joined ++ w.own ∷ []; ticket = v.ticket; holding = v.holding; plan = v.plan }

abbrev pub IsNote : Me Slot View → Type 0
IsNote m = m ≡ (telling m.0.plan m.0.own.seen, [])
