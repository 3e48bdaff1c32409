-- What the statements of a step ask for, by numbers. No public clause cites this module.
use Rattle.std.specs.Prelude.{ℕ, Bool, not, ◌==◌, List, length}
use Rattle.lock_modes.specs.Resource.{same_resource}
use Rattle.lock_modes.specs.declared.resource.Resource.{Resource}
use Rattle.lock_queues.specs.Locks.{fits}
use Rattle.bound_statements.specs.Plan.{Request}
use Rattle.machine_model.specs.World.{World, look_of}
use Rattle.numbered_specs.specs.Numbers.{HasNumber, place_of}
use Rattle.numbered_specs.specs.declared.request.NumberedRequest.{NumberedRequest}
use Rattle.numbered_specs.specs.declared.request.ResourceNumber.{ResourceNumber}

-- the request's number is that of a resource
abbrev pub HasRequest : List Resource → NumberedRequest → Type 0
HasRequest resources q = HasNumber resources q.resource

-- the request fits beside what other sessions hold
abbrev pub fits_at : World → ℕ → Request → Bool
fits_at w i q = fits (length w.sessions) (look_of w) i q.resource q.mode

-- the request is for another resource
abbrev pub is_elsewhere : Resource → Request → Bool
is_elsewhere r q = not (same_resource r q.resource)

-- the same by numbers
abbrev pub has_other_number : ResourceNumber → NumberedRequest → Bool
has_other_number number q = not (place_of number == place_of q.resource)
