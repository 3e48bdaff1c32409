use Rattle.std.proofs.Common.{take}
use Rattle.fact_books.specs.Tables.{Names, Extends}
use Rattle.fact_books.proofs.table.Table.numbers.Given as goal

abbrev pub invariant-loop-n : goal.invariant-loop-n
invariant-loop-n l = Names l.self l.all.items (take l.n l.more) × Extends l.initial.self l.self
