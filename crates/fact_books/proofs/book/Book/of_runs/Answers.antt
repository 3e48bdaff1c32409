use Rattle.fact_books.proofs.RecordedRuns.{made-book}
use Rattle.fact_books.proofs.book.Book.of_runs.Goals as goal

pub invariant_of-result : goal.invariant_of-result
invariant_of-result c =
    made-book _ _ c.args.spec.now _ c.args.outcomes c.args.runs.items c.in_ok-new.ensures.ok c.in_ok-about.ensures c.of-2.ensures
    c.requires.rising c.requires.sound c.requires.recordable
