use Rattle.std.proofs.lemmas.Result.{err_from_is_err_and}
use Rattle.spec_reader.proofs.lines.line_of.Goals as goal

-- the first item is refused
pub returns-in_err-next-clause-reads : goal.returns-in_err-next-clause-reads
returns-in_err-next-clause-reads c =
    let p = err_from_is_err_and c.from_residual-in_err-next.result c.from_residual-in_err-next.ensures.1 in
    λ f ls. rw (p.1, p.2, c.in_ok-token.ensures) (rw c.new-items.ensures.items at (c.in_err-next.ensures.reads f ls))
