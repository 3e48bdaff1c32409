-- When a call is refused, and what stands then.
use Rattle.std.specs.Prelude.{◌≡◌, ◌≢◌, ℕ, true, false, List, length, None}
use Rattle.bound_specs.specs.Spec.{Spec}
use Rattle.rank_facts.specs.declared.shard.Shard.{Shard}
use Rattle.fact_books.specs.Books.{Contents}
use Rattle.shard_board.specs.declared.error.TheConstants.{MAX_TURNS}
use Rattle.shard_board.specs.declared.error.BoardError.{BoardError}
use Rattle.shard_board.specs.declared.error.BoardError.TheVariants as board_error
use Rattle.shard_board.specs.declared.error.DeliverErrorKind.{DeliverErrorKind}
use Rattle.shard_board.specs.declared.error.DeliverErrorKind.TheVariants as deliver_error
use Rattle.shard_board.specs.declared.error.LatestError.{LatestError}
use Rattle.shard_board.specs.declared.error.LatestError.TheVariants as latest_error
use Rattle.shard_board.specs.declared.history.Call.TheVariants.{Deliver, Latest}
use Rattle.shard_board.specs.Shown.{ShownSeat, has}
use Rattle.shard_board.specs.Changes.{IsPlanOf, IsTurn, MayTurn}

abbrev pub IsNoBoard : Spec → List Shard → ℕ → BoardError → Type 0
IsNoBoard spec shards seats board_error.BadPlan = IsPlanOf spec shards seats → ⊥
IsNoBoard spec shards seats board_error.NoMemory = IsPlanOf spec shards seats

-- the seat claimed the number, and the book is of its board's spec
pub record MayDeliver (seat : ShownSeat) (number : ℕ) (book : Contents) : Type 0 where
  pub same : book.file.text ≡ seat.board.file.text
  pub claimed : has number seat.claims ≡ true

-- the first of these that fits; only want of memory is a turn
abbrev pub IsNotDelivered : DeliverErrorKind → ShownSeat → ShownSeat → ℕ → Contents → Type 0
IsNotDelivered deliver_error.SpecMismatch old new number book = (book.file.text ≢ old.board.file.text) × (new ≡ old)
IsNotDelivered deliver_error.NotClaimed old new number book = (book.file.text ≡ old.board.file.text) × (has number old.claims ≡ false) × (new ≡ old)
IsNotDelivered deliver_error.SeatSpent old new number book = MayDeliver old number book × (length old.calls ≡ MAX_TURNS) × (new ≡ old)
IsNotDelivered deliver_error.NoMemory old new number book = MayDeliver old number book × MayTurn old × IsTurn old new (Deliver number book.facts None)

abbrev pub IsNotGiven : LatestError → ShownSeat → ShownSeat → Type 0
IsNotGiven latest_error.SeatSpent old new = (length old.calls ≡ MAX_TURNS) × (new ≡ old)
IsNotGiven latest_error.NoMemory old new = MayTurn old × IsTurn old new (Latest None)
