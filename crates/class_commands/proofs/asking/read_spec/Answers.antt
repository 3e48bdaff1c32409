use Rattle.class_commands.proofs.asking.read_spec.Goals as goal

pub returns-in-Err-clause-refused : goal.returns-in-Err-clause-refused
returns-in-Err-clause-refused c = c.not_read.ensures c.args.bytes.now c.args.word c.in-Err.ensures.refused
