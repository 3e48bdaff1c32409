-- What a walk of words has left to send for a rank are the new steps of its line.
use Rattle.std.proofs.Common.{◌≡◌, sym, ap, ◌∙◌, ℕ, suc, ◌+◌, ◌-◌, ◌<◌, Bool, true, false, ◌&&◌, [], length, ◌⊎◌, ⊎_elim, arith}
use Rattle.perm_ranks.specs.Words.{total}
use Rattle.perm_ranks.specs.Blocks.{Block, HasRank, end_of, narrowed}
use Rattle.bound_specs.specs.Spec.{Spec, SpecFile, line_of, counts_of, queues_of}
use Rattle.rank_facts.specs.Facts.{has_no_lines}
use Rattle.step_reducer.specs.Framed.{Stacked}
use Rattle.step_reducer.specs.declared.word_walk.WordWalk.{WordWalk}
use Rattle.known_worlds.specs.Fronts.{front}
use Rattle.step_reducer.specs.Fronts.{new_steps}
use Rattle.step_reducer.specs.Walks.{IsAt, HasParted, IsFresh, IsBehind, Follows}
use Rattle.step_reducer.specs.Walking.{skips}
use Rattle.step_reducer.proofs.Partings.{line-length, parted-front}

-- of words ranks are skipped wherever facts are reduced
pub words-run : (reduce : Bool) (spec : Spec) → spec.lines ≡ [] → skips reduce spec ≡ false → reduce ≡ false
words-run reduce spec words run = at reduce (ap (λ ls. reduce && has_no_lines ls) (sym words) ∙ run)
  where
    at : (r : Bool) → (r && true) ≡ false → r ≡ false
    at true e = e
    at false e = e

module _ (file : SpecFile) (reduce : Bool) (first : ℕ) (w : WordWalk) (g : Stacked) (words : file.run.lines ≡ []) (some : w.at < w.end)
    (is : IsAt reduce file w.at w.end g)
    (back : (g.top.block ≡ w.stack.top.block) ⊎ HasParted (w.at - 1) w.at w.stack.top.block g.top.block) where
  abbrev spec : Spec
  spec = file.run

  all-steps : length (line_of spec w.at) ≡ total (counts_of (queues_of spec))
  all-steps =
      let inside = is.stack.top.frame.stands.ranks.inside in
      let to = is.has.1 in
      line-length spec words w.at (omega (arith, inside, to))

  -- before the first rank nothing is shared
  new-first : (w.at ≡ first) → total g.top.block.left ≡ total (counts_of (queues_of spec)) → total g.top.block.left ≡ new_steps spec first (w.at - first)
  new-first here all =
      let none : 0 ≡ w.at - first = omega (arith, here) in
      let place : first + 0 ≡ w.at = omega (arith, here) in
      let len : length (line_of spec (first + 0)) ≡ length (line_of spec w.at) = ap (λ r. length (line_of spec r)) place in
      let new : total g.top.block.left ≡ length (line_of spec (first + 0)) - 0 = omega (arith, all, len, all-steps) in
      new ∙ ap (new_steps spec first) none

  -- behind another rank as much is shared as the topmost frame has
  new-later : (first < w.at) → front (line_of spec (w.at - 1)) (line_of spec w.at) + total g.top.block.left ≡ total (counts_of (queues_of spec))
      → total g.top.block.left ≡ new_steps spec first (w.at - first)
  new-later lt shared =
      let n = w.at - 1 - first in
      let more : suc n ≡ w.at - first = omega (arith, lt) in
      let place : first + suc n ≡ w.at = omega (arith, lt) in
      let before : first + n ≡ w.at - 1 = omega (arith, lt) in
      let len : length (line_of spec (first + suc n)) ≡ length (line_of spec w.at) = ap (λ r. length (line_of spec r)) place in
      let same : front (line_of spec (first + n)) (line_of spec (first + suc n)) ≡ front (line_of spec (w.at - 1)) (line_of spec w.at) =
      λ k. front (line_of spec (before k)) (line_of spec (place k)) in
      let new : total g.top.block.left ≡ length (line_of spec (first + suc n)) - front (line_of spec (first + n)) (line_of spec (first + suc n)) =
      omega (arith, shared, len, same, all-steps) in
      new ∙ ap (new_steps spec first) more

  pub left-new : Follows spec first w → total g.top.block.left ≡ new_steps spec first (w.at - first)
  left-new follows = ⊎_elim fresh behind follows
    where
      fresh : (w.at ≡ first) × IsFresh spec w.end w.stack → total g.top.block.left ≡ new_steps spec first (w.at - first)
      fresh h =
          let to = h.1.to in
          new-first h.0
          (⊎_elim (λ same. ap (λ (b : Block). total b.left) same ∙ h.1.all)
          (λ p. absurd (let within = p.within in let past = p.behind in omega (arith, to, within, past, some))) back)

      behind : (first < w.at) × IsBehind (w.at - 1) w.stack → total g.top.block.left ≡ new_steps spec first (w.at - first)
      behind h =
          let lt = h.0 in
          let has = h.1.has in
          let alone = h.1.alone in
          let to = has.1 in
          let here = is.has.1 in
          let frame = is.stack.top.frame in
          let letters = frame.stands.ranks.letters in
          ⊎_elim (λ same. absurd (let ends = ap end_of same in omega (arith, ends, here, alone, lt)))
          (λ p. (let from = p.from in
          let within = p.within in
          let has_last : HasRank (narrowed g.top.block p.letter) (w.at - 1) = (from, omega (arith, within, to)) in
          let shared = parted-front spec reduce frame.shared g.top.block g.top.world.world g.top.swaps words frame.stands
          (w.at - 1) w.at p.letter p.left has_last is.has p.behind in
          new-later lt (omega (arith, shared, letters)))) back
