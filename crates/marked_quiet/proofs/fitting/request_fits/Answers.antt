use Rattle.numbered_specs.specs.Numbers.{resource_of}
use Rattle.marked_quiet.proofs.FitLemmas.{fits-is}
use Rattle.marked_quiet.proofs.fitting.request_fits.Goals as goal

pub returns : goal.returns
returns c =
    let world = c.args.world.now in
    let request = c.args.request.now in
    fits-is world.world c.args.session (resource_of world.numbers.resources request.resource) request.mode c.fits.result c.fits.ensures
