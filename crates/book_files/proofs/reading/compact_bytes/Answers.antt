use Rattle.std.proofs.Common.{subst}
use Rattle.std.specs.Prelude.{IfSome}
use Rattle.book_format.specs.Compacting.{AreAlike}
use Rattle.book_files.proofs.reading.compact_bytes.Goals as goal

pub returns-in-Ok : goal.returns-in-Ok
returns-in-Ok c = subst (λ bs. IfSome c.compacted.result (λ compact. AreAlike bs compact.items)) c.in-Ok.ensures.cases.0 c.compacted.ensures
