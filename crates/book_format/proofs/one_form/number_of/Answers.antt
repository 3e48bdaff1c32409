use Rattle.book_format.proofs.NumberingLemmas.{found-number, no-number}
use Rattle.book_format.proofs.one_form.number_of.Goals as goal

pub returns-in-Ok : goal.returns-in-Ok
returns-in-Ok c = found-number c.args.named.now c.args.outcome.now c.in-Ok.n c.in-Ok.ensures.bound c.in-Ok.ensures.ok

pub returns-in-Err : goal.returns-in-Err
returns-in-Err c = no-number c.args.named.now c.args.outcome.now _ 0 c.requires c.in-Err.ensures.position
