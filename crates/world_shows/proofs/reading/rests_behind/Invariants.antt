use Rattle.std.proofs.Common.{◌≡◌, map}
use Rattle.line_moments.specs.Left.{standings}
use Rattle.order_classes.specs.Shows.{rest_of}
use Rattle.world_shows.proofs.reading.rests_behind.Given as goal

abbrev pub invariant-loop-session : goal.invariant-loop-session
invariant-loop-session l = l.rests ≡ map rest_of (standings l.session l.world.world)
