use Rattle.transcripts.proofs.printing.print_words.Goals as goal

pub returns-in-RolledBack : goal.returns-in-RolledBack
returns-in-RolledBack g c = rw c.in-RolledBack.is c.write_str-in-RolledBack.ensures
