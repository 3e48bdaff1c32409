use Rattle.spec_classes.proofs.Drawn.{AreBegun}
use Rattle.spec_classes.proofs.drawing.ranks_by.Given as goal

abbrev pub invariant-loop : goal.invariant-loop
invariant-loop l = AreBegun l.fn.words l.bound l.count l.words l.counter l.ranks.items
