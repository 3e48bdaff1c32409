use Rattle.spec_checks.proofs.checking.idle_of.Goals as goal

pub returns-in-Err-clause-refused : goal.returns-in-Err-clause-refused
returns-in-Err-clause-refused c = c.not_read.ensures c.args.bytes.now c.in-Err.ensures.refused
