-- What a worker is before it works, and what it has done.
use Rattle.std.specs.Prelude.{◌≡◌, ◌⊎◌, ℕ, ◌<◌, ◌≤◌, All, vec_len, vec_capacity, Bool, true, false, List, [], length, replicate, filter, slice_index_or, Some, None}
use Rattle.std.specs.List.{range_with_len, list_any}
use mathlib.Core.Option.{some}
use lib.ListN.{get_elem?}
use Rattle.bound_specs.specs.Spec.{Spec, SpecFile}
use Rattle.step_reducer.specs.Shardwise.{Shardwise}
use Rattle.step_reducer.specs.Walking.{Starts}
use Rattle.rank_facts.specs.declared.shard.Shard.{Shard}
use Rattle.rank_facts.specs.Shards.{IsShardOf}
use Rattle.fact_books.specs.Entries.{FactSet}
use Rattle.fact_books.specs.Building.{AreFactsOf}
use Rattle.shard_board.specs.declared.history.Receipt.{Receipt}
use Rattle.shard_board.specs.declared.history.Call.{Call}
use Rattle.shard_board.specs.declared.history.Call.TheVariants.{Deliver, Latest}
use Rattle.shard_board.specs.declared.history.Entry.{Entry}
use Rattle.shard_board.specs.Shown.{ShownBoard, ShownSeat, has}
use Rattle.shard_board.specs.declared.error.TheConstants.{MAX_SHARDS}
use Rattle.shard_board.specs.Changes.{IsClaim, IsTurn, MayTurn}
use Rattle.shard_farm.specs.declared.worker.Worker.{Worker}
use Rattle.shard_farm.specs.declared.reserving.Reserved.{Reserved}

-- the spec starts, and these are shards of it, not too many
pub record AreRunnable (spec : Spec) (shards : List Shard) : Type 0 where
  pub started : Starts spec
  pub lawful : All (IsShardOf spec) shards
  pub few : length shards ≤ MAX_SHARDS

-- the facts are those of the shard of this number
abbrev pub AreFactsAt : Bool → Spec → List Shard → ℕ → FactSet → Type 0
AreFactsAt reduce spec shards n facts = (shard : Shard) × ((get_elem? shards n ≡ some shard) × AreFactsOf reduce spec shard.first shard.end facts)

-- the shard's facts were delivered; or else no delivery was accepted
abbrev pub HasServed : Bool → Spec → List Shard → ShownSeat → ShownSeat → ℕ → Bool → Type 0
HasServed reduce spec shards old new n true =
    (facts : FactSet) × ((receipt : Receipt) × (IsTurn old new (Deliver n facts (Some receipt)) × AreFactsAt reduce spec shards n facts))
HasServed reduce spec shards old new n false = (new ≡ old) ⊎ ((facts : FactSet) × IsTurn old new (Deliver n facts None))

abbrev pub is_marked : List Bool → ℕ → Bool
is_marked marks n = slice_index_or marks n false

-- a seat of the board that nothing was claimed or called with
pub record IsStarting (board : ShownBoard) (seat : ShownSeat) : Type 0 where
  pub board_is : seat.board ≡ board
  pub claims : seat.claims ≡ []
  pub calls : seat.calls ≡ []

-- a worker with such a seat and no mark
pub record IsReady (board : ShownBoard) (worker : Worker) : Type 0 where
  pub starting : IsStarting board worker.seat
  pub blank : worker.missed.items ≡ replicate board.shards false

-- all that a run of the shards needs: a board of the spec, of which nothing is claimed, a worker for each seat, and room for all numbers and all seats
pub record IsReserved (file : SpecFile) (shards : List Shard) (r : Reserved) : Type 0 where
  pub of_spec : r.board.file ≡ file
  pub of_shards : r.board.shards ≡ length shards
  pub some_seat : 1 ≤ r.board.seats
  pub many : vec_len r.workers ≡ r.board.seats
  pub ready : All (IsReady r.board) r.workers.items
  pub no_number : r.numbers.items ≡ []
  pub numbers : length shards ≤ vec_capacity r.numbers
  pub no_seat : r.seats.items ≡ []
  pub seats : vec_len r.workers ≤ vec_capacity r.seats

-- a walk of the spec's shards that was not refused memory
pub record IsWalkFor (file : SpecFile) (reduce : Bool) (walk : Shardwise) : Type 0 where
  pub file_is : walk.file ≡ file
  pub reduce_is : walk.reduce ≡ reduce
  pub whole : walk.spent ≡ false

-- the seat claimed the shard, and has not had all its turns
pub record MayServe (seat : ShownSeat) (n : ℕ) : Type 0 where
  pub claimed : has n seat.claims ≡ true
  pub turns : MayTurn seat

-- one of the calls is an accepted delivery of the shard's facts
abbrev pub IsDelivered : Bool → Spec → List Shard → List Entry → ℕ → Type 0
IsDelivered reduce spec shards calls n =
    (k : ℕ) × ((e : Entry) × ((facts : FactSet) × ((r : Receipt)
    × ((get_elem? calls k ≡ some e) × ((e.call ≡ Deliver n facts (Some r)) × AreFactsAt reduce spec shards n facts)))))

-- an accepted delivery is one of a claimed shard that has no mark, and of its facts
abbrev pub IsTrueCall : Bool → Spec → List Shard → List ℕ → List Bool → Call → Type 0
IsTrueCall reduce spec shards claims marks (Deliver n facts (Some r)) =
    (has n claims ≡ true) × ((is_marked marks n ≡ false) × AreFactsAt reduce spec shards n facts)
IsTrueCall reduce spec shards claims marks (Deliver n facts None) = Unit {0}
IsTrueCall reduce spec shards claims marks (Latest reply) = Unit {0}

-- each shard that the seat claimed was delivered or has a mark, never both, and nothing else was delivered or has one. It took a turn for each
-- claim at most, and what it claimed is below any number that all claims are below
pub record Serves (reduce : Bool) (spec : Spec) (shards : List Shard) (seat : ShownSeat) (marks : List Bool) : Type 0 where
  pub each : (n : ℕ) → has n seat.claims ≡ true → (is_marked marks n ≡ true) ⊎ IsDelivered reduce spec shards seat.calls n
  pub only : (k : ℕ) (e : Entry) → get_elem? seat.calls k ≡ some e → IsTrueCall reduce spec shards seat.claims marks e.call
  pub marked : (n : ℕ) → is_marked marks n ≡ true → has n seat.claims ≡ true
  pub long : length marks ≡ length shards
  pub turns : length seat.calls ≤ length seat.claims
  pub few : (n : ℕ) → All (λ x. x < n) seat.claims → length seat.claims ≤ n

-- what was claimed before is served or marked, and one shard more is claimed
pub record HasClaimed (reduce : Bool) (spec : Spec) (shards : List Shard) (worker : Worker) (n : ℕ) : Type 0 where
  pub before : ShownSeat
  pub serves : Serves reduce spec shards before worker.missed.items
  pub claim : IsClaim (length shards) before worker.seat n

-- and there was no more to claim
pub record HasWorked (reduce : Bool) (spec : Spec) (shards : List Shard) (seat : ShownSeat) (marks : List Bool) : Type 0 where
  pub ended : seat.refused ≡ true
  pub serves : Serves reduce spec shards seat marks

-- a worker of the board that has worked
pub record IsDone (board : ShownBoard) (reduce : Bool) (spec : Spec) (shards : List Shard) (worker : Worker) : Type 0 where
  pub board_is : worker.seat.board ≡ board
  pub worked : HasWorked reduce spec shards worker.seat worker.missed.items

-- whether one of the workers has a mark for the number
abbrev pub is_missed_by : List Worker → ℕ → Bool
is_missed_by ws n = list_any (λ (w : Worker). is_marked w.missed.items n) ws

-- the numbers below the count that a worker has a mark for
abbrev pub numbers_missed : List Worker → ℕ → List ℕ
numbers_missed ws count = filter (is_missed_by ws) (range_with_len 0 count)
