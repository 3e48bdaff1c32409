-- Outcomes whose texts stand in one text, one behind the other.
use Rattle.std.specs.Prelude.{◌≡◌, ℕ, zero, suc, ◌-◌, ◌≤◌, List, [], ◌∷◌, take, drop, length, map, All}
use Rattle.events.specs.declared.event.Event.{Event}
use Rattle.compact_outcomes.specs.Told.{told_in, IsCompactOutcome}

-- the pieces of a text: each from where the one before ends, the first from the start, up to its own end
unfoldable pub pieces_from : ℕ → List ℕ → List ℕ → List (List ℕ)
pieces_from start [] text = []
pieces_from start (end ∷ ends) text = take (end - start) (drop start text) ∷ pieces_from end ends text

-- the ends rise from a start, and the last of them is where the text ends; where there are none, the start is
unfoldable pub AreEnds : ℕ → List ℕ → List ℕ → Type 0
AreEnds start [] text = start ≡ length text
AreEnds start (end ∷ ends) text = (start ≤ end) × AreEnds end ends text

-- where the piece at a place starts
unfoldable pub start_at : ℕ → List ℕ → ℕ → ℕ
start_at start [] place = start
start_at start (end ∷ ends) zero = start
start_at start (end ∷ ends) (suc place) = start_at end ends place

-- the outcomes that the pieces of a text tell
abbrev pub told_pieces : List ℕ → List ℕ → List (List (List Event))
told_pieces text ends = map told_in (pieces_from 0 ends text)

-- a text is cut at its ends into compact texts of outcomes
pub record AreCompactOutcomes (text ends : List ℕ) : Type 0 where
  pub ends_are : AreEnds 0 ends text
  pub each : All IsCompactOutcome (pieces_from 0 ends text)
