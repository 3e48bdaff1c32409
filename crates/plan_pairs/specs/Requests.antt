-- Requests by numbers that go together. No public clause cites this module.
use Rattle.std.specs.Prelude.{Bool, not, ◌||◌, ◌==◌, List, map}
use Rattle.std.specs.List.{flat_map, list_all}
use Rattle.lock_modes.specs.Mode.{compatible}
use Rattle.numbered_specs.specs.Numbers.{place_of}
use Rattle.numbered_specs.specs.declared.request.NumberedRequest.{NumberedRequest}

-- the requests of all statements of a step
abbrev pub requests_in : List (List NumberedRequest) → List NumberedRequest
requests_in plans = flat_map (λ qs. qs) plans

-- two requests are of different resources, or of modes that go together
abbrev pub fit : NumberedRequest → NumberedRequest → Bool
fit q p = not (place_of q.resource == place_of p.resource) || compatible q.mode p.mode

abbrev pub all_fit : List NumberedRequest → List NumberedRequest → Bool
all_fit qs ps = list_all (λ q. list_all (fit q) ps) qs

-- for each of the others, whether these requests fit it
abbrev pub row_of : List NumberedRequest → List (List NumberedRequest) → List Bool
row_of qs others = map (all_fit qs) others
