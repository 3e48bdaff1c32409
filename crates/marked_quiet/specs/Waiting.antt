-- Where sessions wait. No public clause cites this module.
use Rattle.std.specs.Prelude.{ℕ, Bool, true, not, ◌&&◌, ◌==◌, List, Option, Some, None, is_some}
use Rattle.std.specs.List.{find, list_all}
use Rattle.std.specs.Option.{option_map}
use Rattle.lock_modes.specs.declared.resource.Resource.{Resource}
use Rattle.lock_queues.specs.declared.wait.Wait.{Wait}
use Rattle.bound_statements.specs.Plan.{Request}
use Rattle.machine_model.specs.World.{World, look_of}
use Rattle.marked_quiet.specs.Asked.{is_elsewhere}

-- the resource for which the session waits
abbrev pub wait_of : World → ℕ → Option Resource
wait_of w c = option_map (λ (v : Wait). v.resource) (find (λ (v : Wait). v.session == c) w.waits)

-- the session holds nothing there, and none of the requests is for it
abbrev pub is_free : World → ℕ → List Request → Resource → Bool
is_free w i qs r = not (is_some (look_of w i r)) && list_all (is_elsewhere r) qs

-- a resource, if there is one, is free
abbrev pub clear_of : World → ℕ → List Request → Option Resource → Bool
clear_of w i qs None = true
clear_of w i qs (Some r) = is_free w i qs r
