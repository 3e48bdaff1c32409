-- What stands when a board is closed.
use Rattle.std.specs.Prelude.{◌≡◌, ℕ, ◌+◌, ◌<◌, ◌≤◌, ◌==◌, ◌⊎◌, true, false, List, [], length, None}
use mathlib.Core.Option.{some}
use mathlib.Core.List.{IsPrefix}
use lib.ListN.{get_elem?}
use Rattle.atomic_table.specs.Table.{Me}
use Rattle.atomic_table.specs.Seated.{TableId}
use Rattle.fact_books.specs.Books.{Contents}
use Rattle.shard_board.specs.declared.history.Entry.{Entry}
use Rattle.shard_board.specs.declared.rule.Part.{Part}
use Rattle.shard_board.specs.declared.rule.View.{View}
use Rattle.shard_board.specs.Sums.{Slot, tick, total, each}
use Rattle.shard_board.specs.Claiming.{times, once_below}
use Rattle.shard_board.specs.History.{IsLegal, facts_of, calls_by}
use Rattle.shard_board.specs.Shown.{ShownSeat, ShownBoard}

-- each of them is a seat of this board
abbrev pub OfBoard : TableId → List ShownSeat → Type 0
OfBoard t seats = (k : ℕ) (s : ShownSeat) → get_elem? seats k ≡ some s → s.board.table_id ≡ t

-- There is one legal history of all turns. Each seat saw a beginning of it and has its own calls of it, and it has no others. The claims are the numbers
-- below `claimed`, each once
pub record IsClosed (board : ShownBoard) (seats : List ShownSeat) (book : Contents) (claimed turns : ℕ) : Type 0 where
  pub log : List Entry
  pub legal : IsLegal log
  pub long : length log ≡ turns
  pub file : book.file ≡ board.file
  pub facts : book.facts ≡ facts_of log
  pub seen : (k : ℕ) (s : ShownSeat) → get_elem? seats k ≡ some s → IsPrefix s.seen log
  pub mine : (k : ℕ) (s : ShownSeat) → get_elem? seats k ≡ some s → calls_by s.number log ≡ s.calls
  pub numbers : (x : ℕ) → total (λ (s : ShownSeat). tick (s.number == x)) seats ≡ once_below x board.seats
  pub given : (k : ℕ) (e : Entry) → get_elem? log k ≡ some e → e.by < board.seats
  pub claims : (x : ℕ) → total (λ (s : ShownSeat). times x s.claims) seats ≡ once_below x claimed
  pub most : claimed ≤ board.shards
  pub refused : (k : ℕ) (s : ShownSeat) → get_elem? seats k ≡ some s → s.refused ≡ true → claimed ≡ board.shards

abbrev pub part_of : ShownSeat → Part
part_of s = record { number = s.number; seen = s.seen; calls = s.calls; claims = s.claims; refused = s.refused }

abbrev pub IsPart : View → Part → Type 0
IsPart v p = (p ≡ v.own) ⊎ ((k : ℕ) × (get_elem? v.joined k ≡ some p))

-- a seat that has taken in others, but for the rest of all
pub record Gathered (m : Me Slot View) (rest all : List ShownSeat) : Type 0 where
  pub free : m.1 ≡ []
  pub live : m.0.live ≡ true
  pub no_ticket : m.0.ticket ≡ None
  pub no_hold : m.0.holding ≡ false
  pub sums : (f : Part → ℕ) → each f m.0 + total (λ (s : ShownSeat). f (part_of s)) rest ≡ total (λ (s : ShownSeat). f (part_of s)) all
  pub parts : (k : ℕ) (s : ShownSeat) → get_elem? all k ≡ some s → (get_elem? rest k ≡ some s) ⊎ IsPart m.0 (part_of s)
