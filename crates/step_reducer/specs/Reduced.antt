-- Where words that begin alike stand: what is left to be sent, the world after what they share, and which exchanges they share.
use Rattle.std.specs.Prelude.{◌≡◌, ℕ, suc, ◌+◌, ◌-◌, ◌<◌, ◌≤◌, Bool, true, false, ◌&&◌, nat_lt, List, [], ◌∷◌, ◌++◌, length, drop, set, get_or}
use Rattle.perm_ranks.specs.Words.{Word}
use Rattle.perm_ranks.specs.Blocks.{Block, IsBlockOf}
use Rattle.bound_specs.specs.Spec.{Step, Spec, Queues, line, counts_of, queues_of}
use Rattle.machine_model.specs.World.{World, send_all}
use Rattle.machine_model.specs.Start.{Started, start}
use Rattle.known_worlds.specs.Paths.{first_world}
use Rattle.rank_facts.specs.Swap.{quiet_heads, quiet_at, falls_at}

-- a spec, a world, and whether the ranks are reduced
pub record Tour : Type 0 where
  pub spec : Spec
  pub world : World
  pub reduce : Bool

abbrev pub tour_of : Spec → Bool → Tour
tour_of spec reduce = record { spec = spec; world = first_world spec; reduce = reduce }

-- the spec starts in the tour's world, and its orders are all words
pub record IsTour (t : Tour) : Type 0 where
  pub starts : start t.spec ≡ Started t.world
  pub words : t.spec.lines ≡ []

-- what is left to be sent behind the word's letters
abbrev pub rest_after : Queues → Word → Queues
rest_after q [] = q
rest_after q (a ∷ word) = elim (get_or q a []) [ [] ↦ rest_after q word | k ∷ ks ↦ rest_after (set q a ks) word ]

-- the world after the steps of the word's letters
abbrev pub world_after : Tour → Word → World
world_after t word = send_all t.spec.steps t.world (line (queues_of t.spec) word)

-- when reducing, the letters at k and after it may be exchanged for a smaller word
abbrev pub has_swap : Tour → ℕ → Word → Bool
has_swap t k word = t.reduce && (falls_at k word && quiet_at t.spec.steps t.world (queues_of t.spec) k word)

-- when reducing, the next step of session a, sent in the world, may be exchanged with the next one of the smaller session b
abbrev pub is_pair : Bool → List Step → World → Queues → ℕ → ℕ → Bool
is_pair reduce steps w q a b = reduce && (nat_lt b a && quiet_heads steps w (get_or q a []) (get_or q b []))

-- so many of the steps of a session are left
abbrev pub LeftOf : List ℕ → ℕ → List ℕ → Type 0
LeftOf all left now = (left ≤ length all) × (now ≡ drop (length all - left) all)

-- of a letter and its step these next letters make a swap with it, whatever is left of each session as the counts tell
abbrev pub AreSwaps : Bool → List Step → World → Queues → List ℕ → ℕ → ℕ → List Bool → Type 0
AreSwaps reduce steps w all left letter step swaps =
    (rest : Queues) (ks : List ℕ) → get_or rest letter [] ≡ step ∷ ks → ((a : ℕ) → LeftOf (get_or all a []) (get_or left a 0) (get_or rest a []))
    → (b : ℕ) → get_or swaps b false ≡ is_pair reduce steps w rest letter b

-- words that share these letters: their ranks, the world behind the letters, which next letters make a swap with the last one; no two of the letters make one
pub record IsPlace (t : Tour) (shared : Word) (block : Block) (world : World) (swaps : List Bool) : Type 0 where
  pub ranks : IsBlockOf (counts_of (queues_of t.spec)) shared block
  pub world_is : world ≡ world_after t shared
  pub left : (a : ℕ) → LeftOf (get_or (queues_of t.spec) a []) (get_or block.left a 0) (get_or (rest_after (queues_of t.spec) shared) a [])
  pub some : (a : ℕ) → get_or swaps a false ≡ true → 0 < length shared
  pub settled : (k : ℕ) (rest : Word) → k + 2 ≤ length shared → has_swap t k (shared ++ rest) ≡ false
  pub pairs : (k a : ℕ) (rest : Word) → suc k ≡ length shared → has_swap t k (shared ++ a ∷ rest) ≡ get_or swaps a false
