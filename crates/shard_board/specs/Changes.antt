-- How a seat changes, and the board and the seats that a plan gives.
use Rattle.std.specs.Prelude.{◌≡◌, ℕ, ◌<◌, ◌≤◌, true, false, List, [], ◌∷◌, ◌++◌, length, All}
use mathlib.Core.Option.{some}
use mathlib.Core.List.{IsPrefix}
use lib.ListN.{get_elem?}
use Rattle.bound_specs.specs.Spec.{Spec}
use Rattle.rank_facts.specs.declared.shard.Shard.{Shard}
use Rattle.rank_facts.specs.Shards.{IsShardOf}
use Rattle.shard_board.specs.declared.error.TheConstants.{MAX_SHARDS, MAX_SEATS, MAX_TURNS}
use Rattle.shard_board.specs.declared.history.Call.{Call}
use Rattle.shard_board.specs.declared.history.Entry.{Entry}
use Rattle.shard_board.specs.History.{IsLegal, calls_by, entry}
use Rattle.shard_board.specs.Shown.{ShownBoard, ShownSeat}

-- the shards are some of the spec, and not too many, for so many seats
pub record IsPlanOf (spec : Spec) (shards : List Shard) (seats : ℕ) : Type 0 where
  pub few : length shards ≤ MAX_SHARDS
  pub lawful : All (IsShardOf spec) shards
  pub some_seat : 1 ≤ seats
  pub few_seats : seats ≤ MAX_SEATS

-- a seat that nothing has happened to
abbrev pub fresh_seat : ShownBoard → ℕ → ShownSeat
fresh_seat board n = record { board = board; number = n; seen = []; calls = []; claims = []; refused = false }

-- seats of one board, numbered from 0 on, with nothing seen, called, claimed or answered
abbrev pub IsRowOf : ShownBoard → List ShownSeat → Type 0
IsRowOf board seats = (j : ℕ) (s : ShownSeat) → get_elem? seats j ≡ some s → s ≡ fresh_seat board j

abbrev pub with_new_claim : ShownSeat → ℕ → ShownSeat
with_new_claim s n = record { board = s.board; number = s.number; seen = s.seen; calls = s.calls; claims = s.claims ++ n ∷ []; refused = s.refused }

abbrev pub with_new_refusal : ShownSeat → ShownSeat
with_new_refusal s = record { board = s.board; number = s.number; seen = s.seen; calls = s.calls; claims = s.claims; refused = true }

-- a shard's number, greater than those that the seat claimed before, is added to them
pub record IsClaim (shards : ℕ) (old new : ShownSeat) (n : ℕ) : Type 0 where
  pub below : n < shards
  pub greater : All (λ x. x < n) old.claims
  pub seat : new ≡ with_new_claim old n

-- a seat that has seen a history and then made a turn
abbrev pub with_new_turn : ShownSeat → List Entry → Call → ShownSeat
with_new_turn s before call = record {
  board = s.board;
  number = s.number;
  seen = before ++ entry s.number call ∷ [];
  calls =
      s.calls ++ entry s.number call ∷ [];
  claims = s.claims;
  refused = s.refused;
}

-- The seen history is legal, begins with the one seen before, and ends with this turn. Of the seat it has the calls that it made before, in their order,
-- and then this one, which are its calls from now on
pub record IsTurn (old new : ShownSeat) (call : Call) : Type 0 where
  pub before : List Entry
  pub begins : IsPrefix old.seen before
  pub seat : new ≡ with_new_turn old before call
  pub legal : IsLegal new.seen
  pub mine : calls_by new.number new.seen ≡ new.calls

-- the seat has not had all its turns
abbrev pub MayTurn : ShownSeat → Type 0
MayTurn s = length s.calls < MAX_TURNS

abbrev pub with_seen : ShownSeat → List Entry → ShownSeat
with_seen s log = record { board = s.board; number = s.number; seen = log; calls = s.calls; claims = s.claims; refused = s.refused }

-- a seat that has seen more of the history, which is legal
pub record SeesMore (old new : ShownSeat) : Type 0 where
  pub begins : IsPrefix old.seen new.seen
  pub seat : new ≡ with_seen old new.seen
  pub legal : IsLegal new.seen
