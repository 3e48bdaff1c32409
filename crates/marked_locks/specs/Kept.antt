-- What a lock table by numbers keeps. No public clause cites this module.
use Rattle.std.specs.Prelude.{◌<◌, List, All}
use Rattle.std.specs.List.{AllZip}
use Rattle.std.specs.List.Sorted.{IsStrictlySortedBy}
use Rattle.finite_maps.specs.Map.{Map}
use Rattle.lock_modes.specs.Resource.{resource_cmp}
use Rattle.lock_modes.specs.declared.mode.Mode.{Mode}
use Rattle.lock_modes.specs.declared.resource.Resource.{Resource}
use Rattle.lock_queues.specs.LockTable.{holding_order}
use Rattle.lock_queues.specs.Sound.{IsSound}
use Rattle.numbered_specs.specs.Numbers.{HasNumber}
use Rattle.marked_lists.specs.Versions.{Versions}
use Rattle.marked_modes.specs.declared.row.TheConstants.{MAX_HOLDERS}
use Rattle.marked_modes.specs.Held.{MarkedHolds}
use Rattle.marked_locks.specs.Queued.{locks_of}
use Rattle.marked_locks.specs.declared.wait.NumberedWait.{NumberedWait}

-- the wait is for one of the resources, and of a session that may hold something
pub record IsKnown (resources : List Resource) (w : NumberedWait) : Type 0 where
  pub number : HasNumber resources w.resource
  pub session : w.session < MAX_HOLDERS

-- no resource is there twice, and waits are known
pub record AreKnown (resources : List Resource) (waits : List NumberedWait) : Type 0 where
  pub rise : IsStrictlySortedBy resource_cmp resources
  pub each : All (IsKnown resources) waits

-- waits are known, and the lock table is sound
pub record IsKeptAt (resources : List Resource) (held : Map holding_order Mode) (waits : List NumberedWait) : Type 0 where
  pub known : AreKnown resources waits
  pub sound : IsSound (locks_of resources held waits)

-- so it is now and at each mark
pub record IsKept (modes : MarkedHolds) (waits : Versions NumberedWait) : Type 0 where
  pub now : IsKeptAt modes.resources modes.now waits.list
  pub marked : AllZip (IsKeptAt modes.resources) modes.marked waits.marked
