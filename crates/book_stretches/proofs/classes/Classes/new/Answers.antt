use Rattle.std.proofs.Common.{sym, subst, []}
use Rattle.book_stretches.specs.Classes.{AreNumbered}
use Rattle.book_stretches.proofs.Numbered.{numbered-none}
use Rattle.book_stretches.proofs.classes.Classes.new.Goals as goal

pub invariant_of-result : goal.invariant_of-result
invariant_of-result c =
    subst (λ os. AreNumbered os c.new-2.result) (sym c.new.ensures.items) (subst (AreNumbered []) (sym c.new-2.ensures) numbered-none)
