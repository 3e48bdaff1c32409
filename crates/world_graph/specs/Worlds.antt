-- Worlds, the letters that lead from one to another, and the graph of the worlds that were found.
use Rattle.std.specs.Prelude.{◌≡◌, ℕ, ◌+◌, ◌^◌, ◌<◌, ◌≤◌, ◌⊎◌, Bool, true, false, List, [], ◌∷◌, ◌++◌, Some, slice_get, length}
use Rattle.path_counts.specs.declared.Edge.{Edge}
use Rattle.path_counts.specs.Paths.{Has, AreApart, AreWithin, IsInOrder}

-- which letters are enabled in a world, where each leads, and how far it raises the rank
pub record Rules (World : Type 0) : Type 0 where
  pub can : World → ℕ → Bool
  pub next : World → ℕ → World
  pub offset : World → ℕ → ℕ

-- the later list is the earlier one, and what came since
abbrev pub GoesOn : {World : Type 0} → List World → List World → Type 0
GoesOn {World} old new = (more : List World) × (new ≡ old ++ more)

-- a world has its number: that of its place among those that were noted before, or it is noted behind them
abbrev pub IsNoted : {World : Type 0} → List World → List World → World → ℕ → Type 0
IsNoted {World} old new world number = ((new ≡ old) × (slice_get old number ≡ Some world)) ⊎ ((new ≡ old ++ world ∷ []) × (number ≡ length old))

-- each letter is enabled where it stands
abbrev pub Runs : {World : Type 0} → Rules World → World → List ℕ → Type 0
Runs r w [] = Unit {0}
Runs r w (a ∷ s) = (a < 8) × (r.can w a ≡ true) × Runs r (r.next w a) s

-- the world behind a word
abbrev pub behind : {World : Type 0} → Rules World → World → List ℕ → World
behind r w [] = w
behind r w (a ∷ s) = behind r (r.next w a) s

-- the rank of the least word that begins with this one
abbrev pub rank : {World : Type 0} → Rules World → World → List ℕ → ℕ
rank r w [] = 0
rank r w (a ∷ s) = r.offset w a + rank r (r.next w a) s

-- no letter is enabled
abbrev pub IsOver : {World : Type 0} → Rules World → World → Type 0
IsOver r w = (a : ℕ) → a < 8 → r.can w a ≡ false

-- the word runs to an end
abbrev pub IsSchedule : {World : Type 0} → Rules World → World → List ℕ → Type 0
IsSchedule r w s = Runs r w s × IsOver r (behind r w s)

-- a word leads from a world back to it
pub record LeadsBack {World : Type 0} (r : Rules World) : Type 0 where
  pub world : World
  pub word : List ℕ
  pub some : 0 < length word
  pub runs : Runs r world word
  pub back : behind r world word ≡ world

-- fewer than 2^64 words lead to a world, and each has a rank below 2^64
pub record AreFewWords {World : Type 0} (r : Rules World) (start : World) : Type 0 where
  pub few : (w : World) (words : List (List ℕ)) → AreApart words → ((s : List ℕ) → Has s words → Runs r start s × (behind r start s ≡ w)) → length words < 2 ^ 64
  pub light : (s : List ℕ) → Runs r start s → rank r start s < 2 ^ 64

abbrev pub HasEdge : List Edge → ℕ → ℕ → Type 0
HasEdge edges node letter = (e : Edge) × Has e edges × (e.from ≡ node) × (e.letter ≡ letter)

-- an edge leads from the world of its one node to that of the other
pub record IsStep {World : Type 0} (r : Rules World) (seen : List World) (e : Edge) : Type 0 where
  pub world : World
  pub at : slice_get seen e.from ≡ Some world
  pub letter : e.letter < 8
  pub can : r.can world e.letter ≡ true
  pub to : slice_get seen e.to ≡ Some (r.next world e.letter)
  pub offset : e.offset ≡ r.offset world e.letter

-- of the first so many letters each that is enabled in the node's world has its edge
pub record IsTried {World : Type 0} (r : Rules World) (seen : List World) (edges : List Edge) (node letters : ℕ) : Type 0 where
  pub world : World
  pub at : slice_get seen node ≡ Some world
  pub each : (a : ℕ) → a < letters → r.can world a ≡ true → HasEdge edges node a

-- the graph of all that runs from the start; a node's world is the one that was seen with its number
pub record IsGraph {World : Type 0} (r : Rules World) (seen : List World) (start : World) (root nodes : ℕ) (edges : List Edge) : Type 0 where
  pub starts : slice_get seen root ≡ Some start
  pub inside : root < nodes
  pub few : nodes ≤ length seen
  pub within : AreWithin nodes edges
  pub order : IsInOrder edges
  pub steps : (e : Edge) → Has e edges → IsStep r seen e
  pub whole : IsTried r seen edges root 8
  pub further : (e : Edge) → Has e edges → IsTried r seen edges e.to 8
