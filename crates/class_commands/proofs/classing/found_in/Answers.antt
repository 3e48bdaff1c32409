use Rattle.class_commands.proofs.classing.found_in.Goals as goal

pub returns-clause-refused : goal.returns-clause-refused
returns-clause-refused g c = c.told_with.ensures.refused c.args.explored.spec.now
