use Rattle.std.proofs.Common.{sym}
use Rattle.class_rows.proofs.Anomalies.{not-through, found-r}
use Rattle.class_rows.proofs.anomaly.is_anomaly.Goals as goal

pub returns-then-not-is_through : goal.returns-then-not-is_through
returns-then-not-is_through c tables run none are = not-through tables run c.args.shows.now none (sym c.if-not-is_through.ensures)

pub returns : goal.returns
returns c tables run none are =
    found-r tables run c.args.shows.now c.in_ok-answers.answers c.args.serial.now c.find.result c.is_none.result none (sym c.if-not-is_through.ensures) are
    c.in_ok-answers.ensures c.find.ensures c.is_none.ensures
