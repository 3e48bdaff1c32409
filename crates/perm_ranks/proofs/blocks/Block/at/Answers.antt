use Rattle.std.proofs.Common.{◌≡◌, sym, ap, ◌∙◌, subst, ℕ, ◌+◌, ◌-◌, ◌<◌, ◌^◌, length, arith}
use Rattle.perm_ranks.specs.Words.{all_words}
use Rattle.perm_ranks.specs.Counting.{taken, words_before}
use Rattle.perm_ranks.specs.Blocks.{Block, end_of, narrowed, IsBlockOf}
use Rattle.perm_ranks.proofs.BlockLemmas.{block-narrowed, narrowed-le}
use Rattle.perm_ranks.proofs.blocks.Block.at.Goals as goal

pub invariant_of-result : goal.invariant_of-result
invariant_of-result c =
    let letter = c.letter_at-letter.result.0 in
    let b : Block = record { left = c.self.inside.left; first = c.self.inside.first } in
    let le = narrowed-le b letter c.letter_at-letter.ensures.left in
    let left : c.take.new.self ≡ taken c.self.inside.left letter = c.take.ensures ∙ ap (λ counts. taken counts letter) c.copy-left.ensures.same in
    let inside = ap (λ (x : Block). x.first) c.self.view_is in
    let from = c.requires.inside.0 in
    omega (arith, le, ap (λ counts. length (all_words counts)) left, c.letter_at-letter.ensures.before, c.self.invariant, inside, from)

pub returns-clause-block : goal.returns-clause-block
returns-clause-block c = λ counts shared is.
    let letter = c.letter_at-letter.result.0 in
    let b : Block = record { left = c.self.inside.left; first = c.self.inside.first } in
    let inside = ap (λ (x : Block). x.first) c.self.view_is in
    let from = c.requires.inside.0 in
    let left : taken c.self.inside.left letter ≡ c.take.new.self = sym (c.take.ensures ∙ ap (λ counts. taken counts letter) c.copy-left.ensures.same) in
    let first : c.self.inside.first + length (words_before c.self.inside.left letter)
    ≡ c.args.rank - c.letter_at-letter.result.1 = omega (arith, c.letter_at-letter.ensures.before, inside, from) in
    let same : narrowed b letter ≡ record { left = c.take.new.self; first = c.args.rank - c.letter_at-letter.result.1 } = λ i.
    record { left = left i; first = first i } in
    subst (IsBlockOf counts _) same (block-narrowed counts shared b letter c.letter_at-letter.ensures.left
    (subst (IsBlockOf counts shared) (sym c.self.view_is) is))
