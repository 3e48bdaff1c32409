use Rattle.std.proofs.Common.{take}
use Rattle.book_jobs.specs.Jobs.{AllLawful}
use Rattle.book_jobs.proofs.making.outside.Given as goal

abbrev pub invariant-loop-leaf : goal.invariant-loop-leaf
invariant-loop-leaf l = AllLawful l.spec.run (take l.leaf-index l.leaves)
