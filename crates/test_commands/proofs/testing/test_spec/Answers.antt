use Rattle.test_commands.proofs.testing.test_spec.Goals as goal

pub returns-in-Err-clause-refused : goal.returns-in-Err-clause-refused
returns-in-Err-clause-refused g c = c.in-Err.ensures.refused (g.O.Opener.bytes c.args.opener.now c.args.accepted.now)

pub returns-in-Err-verdict_on-clause-refused : goal.returns-in-Err-verdict_on-clause-refused
returns-in-Err-verdict_on-clause-refused g c = c.in-Err-verdict_on.ensures.refused c.args.level c.args.bytes.now c.args.name.now
