-- What the code of a walk keeps.
use Rattle.std.specs.Prelude.{◌≡◌, ℕ, ◌+◌, ◌-◌, ◌<◌, ◌≤◌, Bool, true, false, List, [], ◌∷◌, ◌++◌, length, get_or, All, ◌⊎◌}
use Rattle.perm_ranks.specs.Words.{Word, total}
use Rattle.perm_ranks.specs.Blocks.{Block, HasRank, end_of, narrowed}
use Rattle.spec_reader.specs.declared.TheConstants.{MAX_ITEMS}
use Rattle.bound_specs.specs.Spec.{Spec, SpecFile, counts_of, queues_of}
use Rattle.machine_model.specs.World.{send}
use Rattle.rank_facts.specs.Facts.{IsFactOf}
use Rattle.rank_facts.specs.declared.fact.Fact.{Fact}
use Rattle.rank_facts.specs.declared.fact.Fact.TheVariants.{Ran}
use Rattle.events.specs.declared.event.Event.{Event}
use Rattle.step_reducer.specs.Fronts.{new_steps, most_steps}
use Rattle.step_reducer.specs.Reduced.{tour_of, IsTour, IsPlace}
use Rattle.step_reducer.specs.Framed.{Framed, Stacked}
use Rattle.step_reducer.specs.declared.frame.Turn.{Turn}
use Rattle.step_reducer.specs.Saying.{Finding, Giving}
use Rattle.step_reducer.specs.declared.word_walk.WordWalk.{WordWalk}

-- each of these ranks has the fact
abbrev pub AllHave : Bool → Spec → ℕ → ℕ → Fact → Type 0
AllHave reduce spec first end fact = (rank : ℕ) → first ≤ rank → rank < end → IsFactOf reduce spec rank fact

-- where the fact of these ranks is an outcome, it is that of one rank
abbrev pub RunsOne : ℕ → ℕ → Fact → Type 0
RunsOne first end fact = (o : List (List Event)) → fact ≡ Ran o → end ≡ first + 1

-- the frame stands at these letters
abbrev pub StandsAt : Bool → Spec → Word → Framed → Type 0
StandsAt reduce spec shared f = IsPlace (tour_of spec reduce) shared f.block f.world.world f.swaps

-- the frame stands somewhere, with a world of the spec that is not spent
pub record IsFrame (reduce : Bool) (file : SpecFile) (f : Framed) : Type 0 where
  pub shared : Word
  pub stands : StandsAt reduce file.run shared f
  pub file_is : f.world.file ≡ file
  pub whole : f.world.spent ≡ false

-- where the words go on from a frame with the letter of a rank's word
pub record IsTurn (reduce : Bool) (f : Framed) (rank : ℕ) (u : Turn) : Type 0 where
  pub left : 0 < get_or f.block.left u.letter 0
  pub block_is : u.block ≡ narrowed f.block u.letter
  pub inside : HasRank u.block rank
  pub known : u.step < length f.world.file.run.steps
  pub next : (shared : Word) → StandsAt reduce f.world.file.run shared f → get_or f.swaps u.letter false ≡ false
      → IsPlace (tour_of f.world.file.run reduce) (shared ++ u.letter ∷ []) u.block (send f.world.file.run.steps f.world.world u.step) u.swaps.items

-- some letter is left, and each one that is makes a swap
pub record IsCovered (u : Turn) : Type 0 where
  pub some : 0 < total u.block.left
  pub all : (letter : ℕ) → 0 < get_or u.block.left letter 0 → get_or u.swaps.items letter false ≡ true

-- the frame has gone on
pub record HasTurned (f : Framed) (u : Turn) (g : Framed) : Type 0 where
  pub block : g.block ≡ u.block
  pub swaps : g.swaps ≡ u.swaps.items
  pub world : g.world.world ≡ send f.world.file.run.steps f.world.world u.step
  pub file : g.world.file ≡ f.world.file
  pub whole : g.world.spent ≡ false

-- the frame stands at letters of a word of this rank or one before it
pub record IsBefore (reduce : Bool) (file : SpecFile) (at : ℕ) (f : Framed) : Type 0 where
  pub frame : IsFrame reduce file f
  pub from : f.block.first ≤ at

abbrev pub lowest : List Framed → Framed → Framed
lowest [] top = top
lowest (f ∷ fs) top = f

-- of two blocks, one below the other: those of the lower one's words that share one letter more begin at this rank or before it, and the upper block ends
-- no later than they do and, up to the end, no sooner
pub record IsAbove (at end : ℕ) (lower upper : Block) : Type 0 where
  pub letter : ℕ
  pub left : 0 < get_or lower.left letter 0
  pub from : (narrowed lower letter).first ≤ at
  pub within : end_of upper ≤ end_of (narrowed lower letter)
  pub last : (end ≤ end_of upper) ⊎ (end_of (narrowed lower letter) ≤ end_of upper)

-- each frame is above the one below it
abbrev pub AreAbove : ℕ → ℕ → List Framed → Framed → Type 0
AreAbove at end [] top = Unit {0}
AreAbove at end (f ∷ fs) top = IsAbove at end f.block (lowest fs top).block × AreAbove at end fs top

-- frames of words up to this rank, of which the lowest has all that are to come up to the end
pub record IsStack (reduce : Bool) (file : SpecFile) (at end : ℕ) (s : Stacked) : Type 0 where
  pub below : All (IsBefore reduce file at) s.below
  pub top : IsBefore reduce file at s.top
  pub to : end ≤ end_of (lowest s.below s.top).block
  pub above : AreAbove at end s.below s.top

-- from the one block back to the other, where the ranks that share one letter more, from this one or before it on, end at the rank to come or before it
pub record HasParted (last at : ℕ) (upper lower : Block) : Type 0 where
  pub letter : ℕ
  pub left : 0 < get_or lower.left letter 0
  pub from : (narrowed lower letter).first ≤ last
  pub within : end_of upper ≤ end_of (narrowed lower letter)
  pub behind : end_of (narrowed lower letter) ≤ at

-- the topmost frame has the rank
pub record IsAt (reduce : Bool) (file : SpecFile) (at end : ℕ) (s : Stacked) : Type 0 where
  pub stack : IsStack reduce file at end s
  pub has : HasRank s.top.block at

-- from the one stack to the other, which has the rank, with fewer letters to go
pub record HasGone (reduce : Bool) (file : SpecFile) (at end : ℕ) (x y : Stacked) : Type 0 where
  pub now : IsAt reduce file at end y
  pub less : total y.top.block.left < total x.top.block.left

-- the topmost frame has all words up to the end
pub record IsFresh (spec : Spec) (end : ℕ) (s : Stacked) : Type 0 where
  pub all : total s.top.block.left ≡ total (counts_of (queues_of spec))
  pub to : end ≤ end_of s.top.block

-- the topmost frame has the word of the rank, and none behind it
pub record IsBehind (rank : ℕ) (s : Stacked) : Type 0 where
  pub has : HasRank s.top.block rank
  pub alone : end_of s.top.block ≤ rank + 1

-- the walk stands at the first rank, or behind the word of the rank before
abbrev pub Follows : Spec → ℕ → WordWalk → Type 0
Follows spec first w = ((w.at ≡ first) × IsFresh spec w.end w.stack) ⊎ ((first < w.at) × IsBehind (w.at - 1) w.stack)

-- a walk of a spec's words before a rank
pub record IsWalk (file : SpecFile) (w : WordWalk) : Type 0 where
  pub tour : IsTour (tour_of file.run w.reduce)
  pub table : w.table ≡ queues_of file.run
  pub steps : w.steps ≡ total (counts_of (queues_of file.run))
  pub stack : IsStack w.reduce file (w.at - 1) w.end w.stack

-- the fact of ranks from this one on, up to an end
pub record IsFound (reduce : Bool) (file : SpecFile) (at end : ℕ) (found : Finding) : Type 0 where
  pub some : at < found.end
  pub few : found.end ≤ end
  pub facts : AllHave reduce file.run at found.end found.fact
  pub sent_few : found.sent ≤ MAX_ITEMS

-- the steps sent on the way: no more than the fact may take; where nothing is reduced, those of all letters that were left, for one rank
pub record HasSent (reduce : Bool) (spec : Spec) (at : ℕ) (x : Stacked) (found : Finding) (y : Stacked) : Type 0 where
  pub most : found.sent ≤ most_steps spec at found.fact
  pub one : reduce ≡ false → found.end ≡ at + 1
  pub all : reduce ≡ false → found.sent ≡ total x.top.block.left
  pub whole : reduce ≡ false → total y.top.block.left ≡ 0

-- the walk has given the fact of ranks from where it stood on, none of them past the end that was named, and stands behind them
pub record HasGiven (file : SpecFile) (end : ℕ) (x : WordWalk) (given : Giving) (y : WordWalk) : Type 0 where
  pub walk : IsWalk file y
  pub first : given.run.first ≡ x.at
  pub some : given.run.first < given.run.end
  pub few : given.run.end ≤ end
  pub facts : AllHave x.reduce file.run given.run.first given.run.end given.run.fact
  pub at : y.at ≡ given.run.end
  pub all : y.end ≡ x.end
  pub reduce : y.reduce ≡ x.reduce
  pub sent_few : given.sent ≤ MAX_ITEMS
  pub most : given.sent ≤ most_steps file.run given.run.first given.run.fact
  pub one : x.reduce ≡ false → given.run.end ≡ given.run.first + 1
  pub ran : RunsOne given.run.first given.run.end given.run.fact
  pub sent : (first : ℕ) → x.reduce ≡ false → Follows file.run first x → (given.sent ≡ new_steps file.run first (x.at - first)) × Follows file.run first y
