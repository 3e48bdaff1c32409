use Rattle.std.proofs.Common.{subst}
use Rattle.class_stretches.specs.Groups.{AllDiffer}
use Rattle.fact_books.specs.Entries.{Told}
use Rattle.book_stretches.proofs.Numbered.{differ}
use Rattle.book_stretches.proofs.classes.Classes.known.Goals as goal

pub returns : goal.returns
returns c = subst (AllDiffer {A = Told}) c.self.view_is (differ _ _ c.self.invariant)
