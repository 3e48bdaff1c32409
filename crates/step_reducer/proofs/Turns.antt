-- Where a frame goes on with a letter.
use Rattle.std.proofs.Common.{◌≡◌, refl, sym, ap, ◌∙◌, subst, ℕ, ◌-◌, ◌<◌, Bool, false, List, [], ◌∷◌, ◌++◌, length, drop, get_or}
use Rattle.perm_ranks.specs.Blocks.{HasRank, narrowed}
use Rattle.bound_specs.specs.Spec.{Spec, SpecFile, queues_of}
use Rattle.machine_model.specs.World.{send}
use Rattle.step_reducer.specs.Reduced.{tour_of, rest_after, LeftOf, AreSwaps, IsPlace}
use Rattle.step_reducer.specs.Framed.{Framed}
use Rattle.step_reducer.specs.declared.frame.Turn.{Turn}
use Rattle.step_reducer.specs.Walks.{StandsAt, IsFrame, IsTurn, HasTurned}
use Rattle.step_reducer.proofs.Places.{place-next}
use Rattle.step_reducer.proofs.Tables.{step-known}

-- the letters listed are those that make a swap, wherever the frame stands
abbrev pub Lists : Bool → Framed → List (List ℕ) → Turn → Type 0
Lists reduce f table u = AreSwaps reduce f.world.file.run.steps f.world.world table f.block.left u.letter u.step u.swaps.items

pub turn-is : (reduce : Bool) (f : Framed) (rank : ℕ) (table : List (List ℕ)) (u : Turn) (ks : List ℕ)
    → table ≡ queues_of f.world.file.run → 0 < get_or f.block.left u.letter 0 → u.block ≡ narrowed f.block u.letter → HasRank u.block rank
    → drop (length (get_or table u.letter []) - get_or f.block.left u.letter 0) (get_or table u.letter []) ≡ u.step ∷ ks
    → Lists reduce f table u → IsTurn reduce f rank u
turn-is reduce f rank table u ks is_table left block_is inside first lists = record {
  left = left;
  block_is = block_is;
  inside = inside;
  known = step-known run u.letter (length (get_or table u.letter []) - get_or f.block.left u.letter 0) u.step ks
      (sym (ap (λ (t : List (List ℕ)). drop (length (get_or table u.letter []) - get_or f.block.left u.letter 0) (get_or t u.letter [])) is_table) ∙ first);
  next = λ shared stands unlisted. (
      let rests : get_or (rest_after (queues_of run) shared) u.letter [] ≡ u.step ∷ ks =
      (stands.left u.letter).1 ∙ sym (ap (λ (t : List (List ℕ)). drop (length (get_or t u.letter []) - get_or f.block.left u.letter 0)
      (get_or t u.letter [])) is_table) ∙ first in
      let lefts : (a : ℕ) → LeftOf (get_or table a []) (get_or f.block.left a 0) (get_or (rest_after (queues_of run) shared) a []) =
      λ a. subst (λ (t : List (List ℕ)). LeftOf (get_or t a []) (get_or f.block.left a 0) (get_or (rest_after (queues_of run) shared) a [])) (sym is_table)
      (stands.left a) in
      subst (λ b. IsPlace (tour_of run reduce) (shared ++ u.letter ∷ []) b (send run.steps f.world.world u.step) u.swaps.items) (sym block_is)
      (place-next (tour_of run reduce) shared f.block f.world.world (send run.steps f.world.world u.step) f.swaps u.swaps.items u.letter u.step ks
      stands left unlisted rests refl
      (lists (rest_after (queues_of run) shared) ks rests lefts)));
}
  where
    run : Spec
    run = f.world.file.run

-- the words that share the letter too, with the world after its step
pub turn-place : (reduce : Bool) (file : SpecFile) (f : Framed) (u : Turn) (rank : ℕ) (is : IsFrame reduce file f) → IsTurn reduce f rank u
    → get_or f.swaps u.letter false ≡ false
    → IsPlace (tour_of file.run reduce) (is.shared ++ u.letter ∷ []) u.block (send f.world.file.run.steps f.world.world u.step) u.swaps.items
turn-place reduce file f u rank is turn unlisted =
    subst (λ (x : SpecFile). IsPlace (tour_of x.run reduce) (is.shared ++ u.letter ∷ []) u.block (send f.world.file.run.steps f.world.world u.step)
    u.swaps.items) is.file_is
    (turn.next is.shared (subst (λ (x : SpecFile). StandsAt reduce x.run is.shared f) (sym is.file_is) is.stands) unlisted)

-- the frame that has gone on stands behind the letter
pub frame-turned : (reduce : Bool) (file : SpecFile) (f g : Framed) (u : Turn) (rank : ℕ) → IsFrame reduce file f → IsTurn reduce f rank u
    → get_or f.swaps u.letter false ≡ false → HasTurned f u g → IsFrame reduce file g
frame-turned reduce file f g u rank is turn unlisted done = record {
  shared = is.shared ++ u.letter ∷ [];
  stands = subst (λ b. IsPlace (tour_of file.run reduce) (is.shared ++ u.letter ∷ []) b g.world.world g.swaps) (sym done.block)
      (subst (λ s. IsPlace (tour_of file.run reduce) (is.shared ++ u.letter ∷ []) u.block g.world.world s) (sym done.swaps)
      (subst (λ w. IsPlace (tour_of file.run reduce) (is.shared ++ u.letter ∷ []) u.block w u.swaps.items) (sym done.world)
      (turn-place reduce file f u rank is turn unlisted)));
  file_is = done.file ∙ is.file_is;
  whole = done.whole;
}
