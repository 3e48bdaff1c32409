use Rattle.program_commands.proofs.CommandLemmas.{cut-off, passed-on}
use Rattle.program_commands.proofs.commands.written.Goals as goal

pub returns-in-Ok-clause-whole : goal.returns-in-Ok-clause-whole
returns-in-Ok-clause-whole g c =
    passed-on g.W.Write.contents c.args.out.now c.write_str.new.self c.flushed.new.out c.args.text.now _ c.flushed.result c.in-Ok.ensures c.flushed.ensures

pub returns-in-Ok-clause-fault : goal.returns-in-Ok-clause-fault
returns-in-Ok-clause-fault g c =
    cut-off g.W.Write.contents c.args.out.now c.write_str.new.self c.flushed.new.out c.args.text.now _ c.flushed.result c.in-Ok.ensures c.flushed.ensures
