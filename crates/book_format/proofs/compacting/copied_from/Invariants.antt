use Rattle.std.specs.Prelude.{length}
use Rattle.book_format.specs.Compacting.{IsCopied}
use Rattle.book_format.proofs.compacting.copied_from.Given as goal

-- the tokens that are taken are written
abbrev pub invariant-loop-token : goal.invariant-loop-token
invariant-loop-token l = IsCopied l.fn.tokens l.tokens l.writer

abbrev pub decreases-loop-token : goal.decreases-loop-token
decreases-loop-token l = length l.tokens
