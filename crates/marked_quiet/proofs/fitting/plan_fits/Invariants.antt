use Rattle.std.specs.List.{list_all}
use Rattle.std.proofs.Common.{◌≡◌, true, take}
use Rattle.numbered_specs.specs.Numbers.{request_of}
use Rattle.numbered_specs.specs.declared.request.NumberedRequest.{NumberedRequest}
use Rattle.marked_quiet.specs.Asked.{fits_at}
use Rattle.marked_quiet.proofs.fitting.plan_fits.Given as goal

-- the requests so far fit
abbrev pub invariant-loop-request : goal.invariant-loop-request
invariant-loop-request l =
    list_all (λ (q : NumberedRequest). fits_at l.world.world l.session (request_of l.world.numbers.resources q)) (take l.request-index l.plan) ≡ true
