use Rattle.std.proofs.Common.{ap}
use Rattle.spec_binding.proofs.ReadLemmas.{read-is, read-refused}
use Rattle.class_looks.specs.Reading.{told_sql}
use Rattle.class_looks.proofs.reading.read.Goals as goal

pub returns-in-Ok : goal.returns-in-Ok
returns-in-Ok c = ap told_sql (read-is c.args.text.now _ c.in-Ok.ensures.sound)

pub returns-in_default : goal.returns-in_default
returns-in_default c =
    ap told_sql (read-refused c.args.text.now c.in-Err.error c.in-Err.ensures.refused c.in_default.not-NoMemory c.in-Err.ensures.complete)
