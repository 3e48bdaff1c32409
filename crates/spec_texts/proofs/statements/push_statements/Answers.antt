use Rattle.spec_texts.proofs.PartLemmas.{parts-more}
use Rattle.spec_texts.proofs.statements.push_statements.Goals as goal

pub loop-statement-preserved : goal.loop-statement-preserved
loop-statement-preserved c =
    parts-more c.args.kind c.args.block c.args.statements.now c.loop-statement.statement-index c.statement-item.result c.statement-item.is
    c.loop-statement-test.true c.loop-statement.all.items c.push_statement.new.all.items c.args.all.now.items c.in_ok-push_statement.ensures
    c.loop-statement.invariant
