use Rattle.std.proofs.Common.{◌≡◌, drop}
use Rattle.std.specs.List.{list_any}
use Rattle.machine_model.specs.Start.{is_failure}
use Rattle.marked_worlds.proofs.members.any_failure.Given as goal

-- none of those so far is a fault
abbrev pub invariant-loop-place : goal.invariant-loop-place
invariant-loop-place l = list_any (λ e. is_failure e.now) l.events ≡ list_any (λ e. is_failure e.now) (drop l.place l.events)
