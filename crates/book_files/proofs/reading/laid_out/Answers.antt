use Rattle.std.proofs.Common.{subst}
use Rattle.book_format.specs.Compacting.{AreAlike}
use Rattle.book_files.proofs.reading.laid_out.Goals as goal

pub returns-in-Some : goal.returns-in-Some
returns-in-Some c = subst (λ bs. AreAlike bs c.in-Some.compact.items) c.as_slice.ensures.value c.in-Some.ensures

pub returns-in-None : goal.returns-in-None
returns-in-None c = λ d. ((λ value. value), (λ value. value))
