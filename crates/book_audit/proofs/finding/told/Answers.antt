use Rattle.std.proofs.Common.{subst}
use Rattle.fact_books.specs.Entries.{recorded}
use Rattle.book_audit.specs.Findings.{IsFinding}
use Rattle.book_audit.proofs.Least.{least-false}
use Rattle.book_audit.proofs.finding.told.Goals as goal

pub returns-in-False : goal.returns-in-False
returns-in-False c = λ book is.
    least-false book.file.run (recorded book.facts) c.in-False.rank (subst (IsFinding book.file.run (recorded book.facts)) c.in-False.is is)
