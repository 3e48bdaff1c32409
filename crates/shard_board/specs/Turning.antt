-- The part of a board's rule that is about turns, and what the steps of a turn tell.
use Rattle.std.specs.Prelude.{◌≡◌, ℕ, ◌+◌, ◌*◌, ◌<◌, ◌≤◌, ◌==◌, ◌&&◌, ◌⊎◌, ◌≢◌, true, false, List, [], ◌∷◌, ◌++◌, length, Option, Some, None, ltb, leb}
use mathlib.Core.Option.{Option as Home, some, none}
use mathlib.Core.List.{IsPrefix}
use lib.ListN.{get_elem?}
use Rattle.atomic_table.specs.Table.{Me, Step}
use Rattle.fact_books.specs.Entries.{FactSet}
use Rattle.fact_books.specs.Books.{Contents, empty_book}
use Rattle.shard_board.specs.declared.error.TheConstants.{MAX_TURNS}
use Rattle.shard_board.specs.declared.history.Call.TheVariants.{Latest}
use Rattle.shard_board.specs.declared.history.Entry.{Entry}
use Rattle.shard_board.specs.declared.rule.Part.{Part}
use Rattle.shard_board.specs.declared.rule.View.{View}
use Rattle.shard_board.specs.declared.rule.Plan.{Plan}
use Rattle.shard_board.specs.Sums.{Slot, tick, total, each, one}
use Rattle.shard_board.specs.History.{facts_after, facts_of, IsRight, IsLegal, calls_by}

-- the book of a plan's spec with these facts
abbrev pub book_with : Plan → FactSet → Contents
book_with plan facts = record { file = plan.empty.file; facts = facts }

abbrev pub waits : Option ℕ → ℕ
waits None = 0
waits (Some t) = 1

abbrev pub waits_at : ℕ → Option ℕ → ℕ
waits_at x None = 0
waits_at x (Some t) = tick (t == x)

abbrev pub from_to : ℕ → ℕ → ℕ → ℕ
from_to x a b = tick (leb a x && ltb x b)

abbrev pub made : Part → ℕ
made p = length p.calls

-- how many tickets a view's parts have drawn
abbrev pub drawn : View → ℕ
drawn v = each made v + waits v.ticket

abbrev pub in_line : ℕ → View → ℕ
in_line x v = waits_at x v.ticket

-- what the table's history has to do with a seat that was joined to another
abbrev pub Knows : List Entry → Part → Type 0
Knows log p = IsPrefix p.seen log × (calls_by p.number log ≡ p.calls)

-- what the history has to do with one view
pub record Sits (log : List Entry) (serving : ℕ) (v : View) : Type 0 where
  pub seen : IsPrefix v.own.seen log
  pub told : IsPrefix v.told log
  pub mine : v.live ≡ true → calls_by v.own.number log ≡ v.own.calls
  pub others : (k : ℕ) (p : Part) → get_elem? v.joined k ≡ some p → Knows log p
  pub few : drawn v ≤ MAX_TURNS * each one v
  pub holds : v.holding ≡ true → (v.ticket ≡ Some serving) × (v.own.seen ≡ log)

-- There is one legal history. The tickets that are out are the numbers from `serving` up to but not `ticket`, each once. The slot's book is the history's,
-- and is out with the seat whose ticket is served
pub record Turns (plan : Plan) (serving ticket : ℕ) (homes : List (Home Slot)) (views : List View) : Type 0 where
  pub log : List Entry
  pub legal : IsLegal log
  pub long : length log ≡ serving
  pub given : (k : ℕ) (e : Entry) → get_elem? log k ≡ some e → e.by < plan.seats
  pub ahead : serving ≤ ticket
  pub drew : ticket ≡ total drawn views
  pub line : (x : ℕ) → total (in_line x) views ≡ from_to x serving ticket
  pub sits : (j : ℕ) (v : View) → get_elem? views j ≡ some v → Sits log serving v
  pub slot : (homes ≡ some (Some (book_with plan (facts_of log))) ∷ []) ⊎
      ((homes ≡ none ∷ []) × ((j : ℕ) × ((v : View) × ((get_elem? views j ≡ some v) × (v.holding ≡ true)))))

abbrev pub with_ticket : View → ℕ → View
with_ticket v t = record { live = v.live; own = v.own; told = v.told; joined = v.joined; ticket = Some t; holding = v.holding; plan = v.plan }

abbrev pub seen_now : Part → List Entry → Part
seen_now p log = record { number = p.number; seen = log; calls = p.calls; claims = p.claims; refused = p.refused }

-- the seat whose ticket is served, with the board's book in its hands
abbrev pub with_hold : View → List Entry → View
with_hold v log = record { live = v.live; own = seen_now v.own log; told = v.told; joined = v.joined; ticket = v.ticket; holding = true; plan = v.plan }

abbrev pub with_call : Part → Entry → Part
with_call p e = record { number = p.number; seen = p.seen ++ e ∷ []; calls = p.calls ++ e ∷ []; claims = p.claims; refused = p.refused }

-- the same after its turn
abbrev pub with_turn : View → Entry → View
with_turn v e = record { live = v.live; own = with_call v.own e; told = v.told; joined = v.joined; ticket = None; holding = false; plan = v.plan }

-- a ticket was drawn
abbrev pub Queues : Step Slot → Me Slot View → ℕ → Me Slot View → Type 0
Queues st m n m' = (m'.1 ≡ m.1) × (m'.0 ≡ with_ticket m.0 n)

-- the history so far was seen, and the board's book taken
pub record Takes (m m' : Me Slot View) (turn : ℕ) : Type 0 where
  pub slot : m'.1 ≡ (0, Some (book_with m.0.plan (facts_of m'.0.own.seen))) ∷ m.1
  pub view : m'.0 ≡ with_hold m.0 m'.0.own.seen
  pub legal : IsLegal m'.0.own.seen
  pub before : IsPrefix m.0.own.seen m'.0.own.seen
  pub long : length m'.0.own.seen ≡ turn
  pub mine : calls_by m.0.own.number m'.0.own.seen ≡ m.0.own.calls

-- where the ticket is served, the book was taken, and else nothing happened
abbrev pub Waits : Step Slot → Me Slot View → ℕ → Me Slot View → Type 0
Waits st m n m' = (t : ℕ) → m.0.ticket ≡ Some t → (n ≢ t → m' ≡ m) × (n ≡ t → Takes m m' n)

-- the turn is this entry, and the book is given back
abbrev pub Ends : Entry → Step Slot → Me Slot View → ℕ → Me Slot View → Type 0
Ends e st m n m' = m' ≡ (with_turn m.0 e, [])

abbrev pub no_entry : Entry
no_entry = record { by = 0; call = Latest None }

-- a seat between two turns
abbrev pub Ready : Me Slot View → Type 0
Ready m = (m.1 ≡ []) × (m.0.live ≡ true) × (m.0.joined ≡ []) × (m.0.ticket ≡ None) × (m.0.holding ≡ false)

-- the same seat in its turn
pub record Entered (m m' : Me Slot View) (turn : ℕ) : Type 0 where
  pub slot : m'.1 ≡ (0, Some (book_with m.0.plan (facts_of m'.0.own.seen))) ∷ []
  pub view : m'.0 ≡ with_hold (with_ticket m.0 turn) m'.0.own.seen
  pub legal : IsLegal m'.0.own.seen
  pub before : IsPrefix m.0.own.seen m'.0.own.seen
  pub long : length m'.0.own.seen ≡ turn
  pub mine : calls_by m.0.own.number m'.0.own.seen ≡ m.0.own.calls

-- a seat after its turn, which came after this history
abbrev pub ended : View → List Entry → Entry → View
ended v before e = with_turn (with_hold v before) e

-- a turn was made: the entry follows a legal history, which begins with what the seat had seen, and in which it has the calls that it made
pub record HasTurned (m m' : Me Slot View) (e : Entry) : Type 0 where
  pub before : List Entry
  pub free : m'.1 ≡ []
  pub view : m'.0 ≡ ended m.0 before e
  pub begins : IsPrefix m.0.own.seen before
  pub legal : IsLegal (before ++ e ∷ [])
  pub mine : calls_by m.0.own.number before ≡ m.0.own.calls

-- a seat in its turn, whose book has become what the entry makes of it
pub record MayEnd (m : Me Slot View) (e : Entry) : Type 0 where
  pub live : m.0.live ≡ true
  pub alone : m.0.joined ≡ []
  pub holding : m.0.holding ≡ true
  pub by : e.by ≡ m.0.own.number
  pub right : IsRight (length m.0.own.seen) (facts_of m.0.own.seen) e.call
  pub book : m.1 ≡ (0, Some (book_with m.0.plan (facts_after (facts_of m.0.own.seen) e.call))) ∷ []

-- a book of its spec without facts
abbrev pub IsWithoutFacts : Contents → Type 0
IsWithoutFacts book = book ≡ empty_book book.file
