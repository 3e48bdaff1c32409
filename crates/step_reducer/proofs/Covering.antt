-- A swap is one of each word with the same front.
use Rattle.std.proofs.Common.{◌≡◌, sym, ap, ◌∙◌, ℕ, ◌+◌, ◌-◌, ◌≤◌, true, ◌++◌, length, arith}
use Rattle.perm_ranks.specs.Words.{Word, word_at}
use Rattle.perm_ranks.specs.Blocks.{Block, HasRank, IsBlockOf}
use Rattle.bound_specs.specs.Spec.{Spec, Queues, counts_of, queues_of}
use Rattle.machine_model.specs.World.{World}
use Rattle.rank_facts.specs.Swap.{IsSwap, quiet_at, falls_at, word_of}
use Rattle.rank_facts.proofs.Lines.{spec-letters}
use Rattle.step_reducer.proofs.Prefixes.{falls-front, quiet-front}

module _ (spec : Spec) (w : World) (shared : Word) (block : Block) (is : IsBlockOf (counts_of (queues_of spec)) shared block) where
  abbrev behind : ℕ → Word
  behind r = word_at block.left (r - block.first)

  word-in : (r : ℕ) → HasRank block r → word_of spec r ≡ shared ++ behind r
  word-in r has =
      let from = has.0 in
      let to = has.1 in
      let place : r ≡ block.first + (r - block.first) = omega arith in
      ap (word_at (counts_of (queues_of spec))) place ∙ is.words (r - block.first) (omega arith)

  pub swap-covers : (r s k : ℕ) → k + 2 ≤ length shared → HasRank block r → HasRank block s → IsSwap spec w r k → IsSwap spec w s k
  swap-covers r s k le has_r has_s swap =
      let q : Queues = queues_of spec in
      let one = word-in r has_r in
      let other = word-in s has_s in
      let falls : falls_at k (word_of spec s) ≡ true =
      ap (falls_at k) other ∙ falls-front k shared (behind s) (behind r) le ∙ sym (ap (falls_at k) one) ∙ swap.falls in
      record {
        words = swap.words;
        falls = falls;
        quiet = sym (spec-letters spec w s k swap.words falls)
            ∙ ap (quiet_at spec.steps w q k) other
            ∙ quiet-front spec.steps w q k shared (behind s) (behind r) le
            ∙ sym (ap (quiet_at spec.steps w q k) one)
            ∙ spec-letters spec w r k swap.words swap.falls
            ∙ swap.quiet;
      }
