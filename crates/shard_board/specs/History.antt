-- The history of a board: its turns, one behind the other, as one thread would have made them.
use Rattle.std.specs.Prelude.{◌≡◌, ℕ, suc, ◌==◌, cond, List, [], ◌∷◌, Option, Some, None, true}
use Rattle.std.specs.FinSet.{union, empty}
use Rattle.rank_facts.specs.declared.fact.Fact.{Fact}
use Rattle.fact_books.specs.Entries.{FactSet, recorded}
use Rattle.fact_books.specs.Books.{Contents}
use Rattle.shard_board.specs.declared.history.Call.{Call}
use Rattle.shard_board.specs.declared.history.Call.TheVariants.{Deliver, Latest}
use Rattle.shard_board.specs.declared.history.Entry.{Entry}

abbrev pub entry : ℕ → Call → Entry
entry by call = record { by = by; call = call }

-- the facts after a turn: those of an accepted delivery are added
abbrev pub facts_after : FactSet → Call → FactSet
facts_after s (Deliver n facts (Some r)) = union s facts
facts_after s (Deliver n facts None) = s
facts_after s (Latest reply) = s

-- the facts after a history that begins with those of s
abbrev pub facts_from : FactSet → List Entry → FactSet
facts_from s [] = s
facts_from s (e ∷ es) = facts_from (facts_after s e.call) es

-- the state after a history
abbrev pub facts_of : List Entry → FactSet
facts_of log = facts_from empty log

-- the reply is that of one thread in turn k, where the board's facts are s
abbrev pub IsRight : ℕ → FactSet → Call → Type 0
IsRight k s (Deliver n facts (Some r)) = (r.turn ≡ k) × (r.number ≡ n)
IsRight k s (Deliver n facts None) = Unit {0}
IsRight k s (Latest (Some facts)) = facts ≡ s
IsRight k s (Latest None) = Unit {0}

abbrev pub IsLegalFrom : ℕ → FactSet → List Entry → Type 0
IsLegalFrom k s [] = Unit {0}
IsLegalFrom k s (e ∷ es) = IsRight k s e.call × IsLegalFrom (suc k) (facts_after s e.call) es

-- each receipt has its place in the history and the number that was delivered, and each book that was given has the facts delivered before
abbrev pub IsLegal : List Entry → Type 0
IsLegal log = IsLegalFrom 0 empty log

-- the turns of one seat, in order
abbrev pub calls_by : ℕ → List Entry → List Entry
calls_by n [] = []
calls_by n (e ∷ es) = cond (e.by == n) (e ∷ calls_by n es) (calls_by n es)

-- every fact of the second set stands in the first
abbrev pub Includes : FactSet → FactSet → Type 0
Includes big small = (r : ℕ) (fact : Fact) → recorded small r fact ≡ true → recorded big r fact ≡ true

-- the reply of a turn that gives a book, or has no memory for it
abbrev pub facts_given : Option Contents → Option FactSet
facts_given (Some book) = Some book.facts
facts_given None = None
