-- What contracts see of a board, of its seats and of notes.
use Rattle.std.specs.Prelude.{◌≡◌, ℕ, ◌<◌, ◌≤◌, ◌==◌, ◌||◌, Bool, true, false, List, [], ◌∷◌, length, slice_index_or, None}
use Rattle.atomic_table.specs.Table.{Me}
use Rattle.atomic_table.specs.Seated.{TableId}
use Rattle.bound_specs.specs.Spec.{SpecFile}
use Rattle.shard_board.specs.declared.error.TheConstants.{MAX_SHARDS, MAX_TURNS}
use Rattle.shard_board.specs.declared.history.Entry.{Entry}
use Rattle.shard_board.specs.declared.rule.Plan.{Plan}
use Rattle.shard_board.specs.declared.rule.View.{View}
use Rattle.shard_board.specs.Sums.{Slot}
use Rattle.shard_board.specs.Turning.{IsWithoutFacts}

-- a board: which it is, its spec, and how many shards and seats it has
pub record ShownBoard : Type 0 where
  pub table_id : TableId
  pub file : SpecFile
  pub shards : ℕ
  pub seats : ℕ

-- a seat: its board, its number, the history that it has seen, its own calls, its claims, and whether a claim was answered None
pub record ShownSeat : Type 0 where
  pub board : ShownBoard
  pub number : ℕ
  pub seen : List Entry
  pub calls : List Entry
  pub claims : List ℕ
  pub refused : Bool

-- a note: its board, and the history that it tells of
pub record ShownNote : Type 0 where
  pub board : ShownBoard
  pub seen : List Entry

abbrev pub shown_board : TableId → Plan → ShownBoard
shown_board t plan = record { table_id = t; file = plan.empty.file; shards = plan.shards; seats = plan.seats }

abbrev pub shown_seat : TableId → View → ShownSeat
shown_seat t v = record {
  board = shown_board t v.plan;
  number = v.own.number;
  seen = v.own.seen;
  calls = v.own.calls;
  claims = v.own.claims;
  refused =
      v.own.refused;
}

abbrev pub shown_note : TableId → View → ShownNote
shown_note t v = record { board = shown_board t v.plan; seen = v.own.seen }

-- a board's table has three words and one slot, and its key is the plan
pub record IsBoard (table_id : TableId) (key plan : Plan) : Type 0 where
  pub words : table_id.words ≡ 3
  pub slots : table_id.slots ≡ 1
  pub key_is : plan ≡ key
  pub some_seat : 0 < plan.seats
  pub plain : IsWithoutFacts plan.empty

-- whether the number stands in the list
abbrev pub has : ℕ → List ℕ → Bool
has n [] = false
has n (x ∷ xs) = (x == n) || has n xs

-- the view of a seat between two calls
pub record AtRest (number turns : ℕ) (refused : Bool) (marks : List Bool) (me : Me Slot View) : Type 0 where
  pub free : me.1 ≡ []
  pub live : me.0.live ≡ true
  pub alone : me.0.joined ≡ []
  pub no_ticket : me.0.ticket ≡ None
  pub no_hold : me.0.holding ≡ false
  pub number_is : me.0.own.number ≡ number
  pub turns_are : length me.0.own.calls ≡ turns
  pub few : turns ≤ MAX_TURNS
  pub refused_is : me.0.own.refused ≡ refused
  pub marked : (n : ℕ) → slice_index_or marks n false ≡ has n me.0.own.claims
  pub long : length marks ≡ me.0.plan.shards
  pub short : length marks ≤ MAX_SHARDS
