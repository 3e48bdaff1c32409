use Rattle.class_commands.proofs.ClassLemmas.{not-asked, not-found}
use Rattle.class_commands.proofs.classing.classes.Goals as goal

pub returns-in-Err : goal.returns-in-Err
returns-in-Err g c =
    not-asked g.W.Write.contents c.args.out.now c.args.bytes.now c.args.path.now c.args.wanted.now c.in-Err.fault c.in-Err.ensures.refused

pub returns-in-Err-found_of : goal.returns-in-Err-found_of
returns-in-Err-found_of g c =
    not-found g.W.Write.contents c.args.out.now c.args.bytes.now c.args.path.now c.args.wanted.now c.in-Ok.asked c.in-Ok.ensures.read c.in-Err-found_of.fault
    c.in-Err-found_of.ensures.refused

pub returns : goal.returns
returns g c = c.tell.ensures c.args.bytes.now c.in-Ok.ensures.read
