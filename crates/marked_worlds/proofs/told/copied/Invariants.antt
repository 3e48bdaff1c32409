use Rattle.std.proofs.Common.{◌≡◌, map, take}
use Rattle.marked_worlds.proofs.told.copied.Given as goal

-- those so far are copied
abbrev pub invariant-loop-event : goal.invariant-loop-event
invariant-loop-event l = l.told ≡ map (λ e. e.now) (take l.event-index l.events)
