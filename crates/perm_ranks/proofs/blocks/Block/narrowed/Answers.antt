use Rattle.std.proofs.Common.{◌≡◌, sym, ap, ◌∙◌, subst, rules, ◌+◌, ◌<◌, ◌^◌, length, get_or, arith}
use Rattle.perm_ranks.specs.Words.{all_words}
use Rattle.perm_ranks.specs.Counting.{taken}
use Rattle.perm_ranks.specs.Blocks.{Block, narrowed, IsBlockOf}
use Rattle.perm_ranks.proofs.BlockLemmas.{block-narrowed, narrowed-le}
use Rattle.perm_ranks.proofs.blocks.Block.narrowed.Goals as goal

pub overflow_add-first : goal.overflow_add-first
overflow_add-first c =
    let b : Block = record { left = c.self.inside.left; first = c.self.inside.first } in
    let some : 0 < get_or b.left c.args.letter 0 = subst (λ (x : Block). 0 < get_or x.left c.args.letter 0) (sym c.self.view_is) c.requires in
    let le = narrowed-le b c.args.letter some in
    let fits : c.self.inside.first + c.words_before.result < 2 ^ 63 = omega (arith, le, c.words_before.ensures, c.self.invariant) in
    search rules

pub invariant_of-result : goal.invariant_of-result
invariant_of-result c =
    let b : Block = record { left = c.self.inside.left; first = c.self.inside.first } in
    let some : 0 < get_or b.left c.args.letter 0 = subst (λ (x : Block). 0 < get_or x.left c.args.letter 0) (sym c.self.view_is) c.requires in
    let le = narrowed-le b c.args.letter some in
    let left : c.take.new.self ≡ taken c.self.inside.left c.args.letter = c.take.ensures ∙ ap (λ counts. taken counts c.args.letter) c.copy-left.ensures.same in
    omega (arith, le, ap (λ counts. length (all_words counts)) left, c.words_before.ensures, c.self.invariant)

pub returns-clause-block : goal.returns-clause-block
returns-clause-block c = λ counts shared is.
    let b : Block = record { left = c.self.inside.left; first = c.self.inside.first } in
    let some : 0 < get_or b.left c.args.letter 0 = subst (λ (x : Block). 0 < get_or x.left c.args.letter 0) (sym c.self.view_is) c.requires in
    let left : taken c.self.inside.left c.args.letter ≡ c.take.new.self =
    sym (c.take.ensures ∙ ap (λ counts. taken counts c.args.letter) c.copy-left.ensures.same) in
    let same : narrowed b c.args.letter ≡ record { left = c.take.new.self; first = c.self.inside.first + c.words_before.result } =
    λ i. record { left = left i; first = c.self.inside.first + sym c.words_before.ensures i } in
    subst (IsBlockOf counts _) same (block-narrowed counts shared b c.args.letter some (subst (IsBlockOf counts shared) (sym c.self.view_is) is))
