use Rattle.std.proofs.Common.{subst, [], IfSome}
use Rattle.book_format.specs.Compacting.{IsCopied}
use Rattle.book_format.proofs.compacting.copied.Goals as goal

pub returns-in-Ok : goal.returns-in-Ok
returns-in-Ok c = subst (λ ts. IfSome c.copied_from.result (IsCopied ts [])) c.in-Ok.ensures.ok c.copied_from.ensures
