use Rattle.book_format.proofs.EndLemmas.{ends-none}
use Rattle.book_format.proofs.reading.runs.Ends.new.Goals as goal

pub returns : goal.returns
returns c = ends-none c.args.outcomes _ c.in_ok-zeros.ensures c.in_ok-zeros-2.ensures
