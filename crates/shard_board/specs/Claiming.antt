-- The rule of a board's table, and what a claim tells.
use Rattle.std.specs.Prelude.{◌≡◌, ℕ, zero, suc, ◌+◌, ◌-◌, ◌<◌, ◌≤◌, ◌==◌, min, true, false, List, [], ◌∷◌, ◌++◌, length, slice_index, None, All, ltb}
use mathlib.Core.Option.{some}
use lib.ListN.{get_elem?}
use Rattle.atomic_table.specs.Table.{State, Me, Step}
use Rattle.shard_board.specs.declared.error.TheConstants.{MAX_SHARDS, MAX_SEATS}
use Rattle.shard_board.specs.declared.rule.Part.{Part}
use Rattle.shard_board.specs.declared.rule.View.{View}
use Rattle.shard_board.specs.declared.rule.Plan.{Plan}
use Rattle.shard_board.specs.Sums.{Slot, tick, total, each, one}
use Rattle.shard_board.specs.Turning.{Turns}

abbrev pub numbered : ℕ → Part → ℕ
numbered x p = tick (p.number == x)

abbrev pub refusals : Part → ℕ
refusals p = tick p.refused

-- how often x stands in the list
abbrev pub times : ℕ → List ℕ → ℕ
times x [] = 0
times x (y ∷ ys) = tick (y == x) + times x ys

-- how often the part claimed the number
abbrev pub claimed : ℕ → Part → ℕ
claimed x p = times x p.claims

abbrev pub once_below : ℕ → ℕ → ℕ
once_below x n = tick (ltb x n)

abbrev pub blank_part : ℕ → Part
blank_part n = record { number = n; seen = []; calls = []; claims = []; refused = false }

-- n parts, from the number k on
abbrev pub blank_parts : ℕ → ℕ → List Part
blank_parts k zero = []
blank_parts k (suc n) = blank_part k ∷ blank_parts (suc k) n

-- a seat that knows nothing yet, and the seats that are still to be split from it
abbrev pub blank_view : Plan → ℕ → List Part → View
blank_view plan n rest = record { live = true; own = blank_part n; told = []; joined = rest; ticket = None; holding = false; plan = plan }

-- the first seat has the last number, and the parts of all others
abbrev pub first_view : Plan → View
first_view p = blank_view p (p.seats - 1) (blank_parts 0 (p.seats - 1))

-- The seats' numbers are those below the number of seats, each once
pub record Numbers (plan : Plan) (views : List View) : Type 0 where
  pub few : plan.seats ≤ MAX_SEATS
  pub short : plan.shards ≤ MAX_SHARDS
  pub counted : total (each one) views ≡ plan.seats
  pub differ : (x : ℕ) → total (each (numbered x)) views ≡ once_below x plan.seats
  pub knows : (j : ℕ) (v : View) → get_elem? views j ≡ some v → v.live ≡ true → v.plan ≡ plan

-- The claims are the shard numbers below `next`, each once. A seat was refused only where all shards are claimed
pub record Claims (plan : Plan) (next : ℕ) (views : List View) : Type 0 where
  pub once : (x : ℕ) → total (each (claimed x)) views ≡ once_below x (min next plan.shards)
  pub most : next ≤ plan.shards + total (each refusals) views
  pub over : 0 < total (each refusals) views → plan.shards ≤ next

pub record Kept (plan : Plan) (s : State Slot View) : Type 0 where
  pub wide : length s.words ≡ 3
  pub numbers : Numbers plan s.views
  pub claims : Claims plan (slice_index s.words 2) s.views
  pub turns : Turns plan (slice_index s.words 0) (slice_index s.words 1) s.homes s.views

abbrev pub with_own : View → Part → View
with_own v p = record { live = v.live; own = p; told = v.told; joined = v.joined; ticket = v.ticket; holding = v.holding; plan = v.plan }

abbrev pub with_claim : Part → ℕ → Part
with_claim p n = record { number = p.number; seen = p.seen; calls = p.calls; claims = p.claims ++ n ∷ []; refused = p.refused }

abbrev pub with_refusal : Part → Part
with_refusal p = record { number = p.number; seen = p.seen; calls = p.calls; claims = p.claims; refused = true }

-- a number of a shard was found, greater than those claimed before, or one that is none
abbrev pub Draws : Step Slot → Me Slot View → ℕ → Me Slot View → Type 0
Draws st m n m' =
    (m'.1 ≡ m.1)
    × (n < m.0.plan.shards → (m'.0 ≡ with_own m.0 (with_claim m.0.own n)) × All (λ x. x < n) m.0.own.claims)
    × (m.0.plan.shards ≤ n → m'.0 ≡ with_own m.0 (with_refusal m.0.own))

abbrev pub tail_of : List Part → List Part
tail_of [] = []
tail_of (p ∷ ps) = ps

abbrev pub head_or : Part → List Part → Part
head_or q [] = q
head_or q (p ∷ ps) = p

-- the first of the parts that are still to be given away goes to a seat of its own
abbrev pub keeps_rest : View → View
keeps_rest v = record { live = v.live; own = v.own; told = v.told; joined = tail_of v.joined; ticket = v.ticket; holding = v.holding; plan = v.plan }

abbrev pub new_seat : View → View
new_seat v = record { live = true; own = head_or v.own v.joined; told = []; joined = []; ticket = None; holding = false; plan = v.plan }
