use Rattle.std.proofs.Common.{sym, ◌∙◌}
use Rattle.std.proofs.lemmas.List.Folds.{list_all-map}
use Rattle.numbered_specs.specs.Numbers.{request_of}
use Rattle.numbered_specs.specs.declared.request.NumberedRequest.{NumberedRequest}
use Rattle.marked_quiet.specs.Asked.{fits_at}
use Rattle.marked_quiet.proofs.AskedLemmas.{all-so-far, one-fails}
use Rattle.marked_quiet.proofs.fitting.plan_fits.Goals as goal

pub returns-then-not-request_fits : goal.returns-then-not-request_fits
returns-then-not-request_fits c =
    let world = c.args.world.now in
    let test = fits_at world.world c.args.session in
    let request = request_of world.numbers.resources in
    one-fails (λ (q : NumberedRequest). test (request q)) c.args.plan.now c.loop-request.request-index _ c.loop-request-test.true
    (sym c.request_fits.ensures ∙ c.if-not-request_fits.true)
    ∙ sym (list_all-map test request c.args.plan.now)

pub returns : goal.returns
returns c =
    let world = c.args.world.now in
    let test = fits_at world.world c.args.session in
    let request = request_of world.numbers.resources in
    all-so-far (λ (q : NumberedRequest). test (request q)) c.args.plan.now c.loop-request.request-index c.loop-request-test.false c.loop-request.invariant
    ∙ sym (list_all-map test request c.args.plan.now)
