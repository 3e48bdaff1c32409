use Rattle.test_commands.proofs.listing.add_folder.Goals as goal

pub returns-in-Err : goal.returns-in-Err
returns-in-Err g c = c.in-Err.ensures c.args.path.now
