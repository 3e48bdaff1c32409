use Rattle.std.proofs.Common.{ap, ◌∙◌, arith}
use Rattle.perm_ranks.specs.Words.{total}
use Rattle.perm_ranks.specs.Blocks.{Block}
use Rattle.book_audit.proofs.testing.alike_to.Goals as goal

pub overflow_add-place : goal.overflow_add-place
overflow_add-place c =
    let all = c.letters_left-letters.ensures.all ∙ ap (λ (b : Block). total b.left) c.block.ensures.all in
    omega (arith, all, c.letters_left-letters.ensures.few, c.requires.letters)

pub returns : goal.returns
returns c =
    let shared = c.shared_block.ensures in
    record {
      shared = shared.shared;
      block = c.shared_block.result;
      is_block = shared.is_block;
      letters = shared.long;
      has = shared.has;
      end_is = c.end.ensures.end;
    }
