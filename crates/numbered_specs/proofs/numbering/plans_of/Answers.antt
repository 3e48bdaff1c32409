use Rattle.numbered_specs.proofs.NumberLemmas.{there-of}
use Rattle.numbered_specs.proofs.numbering.plans_of.Goals as goal

pub plan_of-requires-clause-there : goal.plan_of-requires-clause-there
plan_of-requires-clause-there c =
    there-of c.args.resources.now c.args.statements.now c.loop-statement.statement-index c.statement-item.result _ c.loop-statement-test.true c.statement-item.is
    c.requires.there
