use Rattle.numbered_specs.proofs.NumberLemmas.{found, not-found}
use Rattle.numbered_specs.proofs.numbering.number_in.Goals as goal

pub returns-in-Ok : goal.returns-in-Ok
returns-in-Ok c = (c.in-Ok.ensures.bound, found c.args.resources.now c.args.resource.now c.in-Ok.index c.in-Ok.ensures.ok)

pub returns-in-Err : goal.returns-in-Err
returns-in-Err c = not-found c.args.resources.now c.args.resource.now _ c.requires c.in-Err.ensures.position
