use Rattle.std.proofs.Common.{List}
use Rattle.order_classes.specs.declared.rows.ClassRow.{ClassRow}
use Rattle.class_commands.specs.LevelParts.{AreResultsOf}
use Rattle.class_commands.proofs.LevelLemmas.{GoesOn}
use Rattle.class_commands.proofs.levels.only_of.Given as goal

-- the rows that go on to all that others do not have
abbrev pub invariant-loop-place : goal.invariant-loop-place
invariant-loop-place l = (known : List ClassRow) → AreResultsOf known l.others → GoesOn known l.rows l.place l.only.items
