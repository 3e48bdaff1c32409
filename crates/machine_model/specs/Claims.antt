-- What a session claims in a step, and what its claims let it write.
use Rattle.std.specs.Prelude.{Bool, false, ◌&&◌, ◌||◌, List, [], ◌∷◌, ◌++◌, Option, Some, None}
use Rattle.std.specs.List.{list_any}
use Rattle.lock_modes.specs.RowPlace.{RowPlace}
use Rattle.finite_maps.specs.Map.{get}
use Rattle.lock_modes.specs.Mode.{same_mode}
use Rattle.lock_modes.specs.Resource.{same_resource}
use Rattle.bound_statements.specs.Plan.{Request, plan}
use Rattle.machine_model.specs.Session.{Held}
use Rattle.lock_modes.specs.declared.mode.Mode.{Mode}
use Rattle.lock_modes.specs.declared.mode.Mode.TheVariants.{IntentExclusive, ShareIntent, Exclusive}
use Rattle.lock_modes.specs.declared.resource.Resource.{Resource}
use Rattle.lock_modes.specs.declared.resource.Resource.TheVariants.{Table, Row as RowOf}
use Rattle.bound_statements.specs.declared.statement.Bound.{Bound}

abbrev pub Claims : Type 0
Claims = Resource → Mode → Bool

-- the mode is held there
abbrev pub is_mode : Option Mode → Mode → Bool
is_mode None m = false
is_mode (Some n) m = same_mode n m

-- what a session claims in a step: what it holds before it, and what it asks in it
abbrev pub claims_of : Held → List Request → Claims
claims_of held qs r m = is_mode (get held r) m || list_any (λ q. same_resource q.resource r && same_mode q.mode m) qs

-- a side with these claims may write the row at the place
abbrev pub may_write : Claims → RowPlace → Bool
may_write claims p =
    claims (Table p.0) Exclusive || (claims (RowOf p.0 p.1) Exclusive && (claims (Table p.0) IntentExclusive || claims (Table p.0) ShareIntent))

-- the requests of a step
abbrev pub plans : List Bound → List Request
plans [] = []
plans (s ∷ ss) = plan s ++ plans ss
