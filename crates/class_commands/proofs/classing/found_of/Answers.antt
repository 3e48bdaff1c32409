use Rattle.class_commands.proofs.classing.found_of.Goals as goal

pub returns-in-Err-clause-refused : goal.returns-in-Err-clause-refused
returns-in-Err-clause-refused g c = c.fault_of.ensures c.args.wanted.now.sample c.args.asked.now.spec c.in-Err.ensures.refused
