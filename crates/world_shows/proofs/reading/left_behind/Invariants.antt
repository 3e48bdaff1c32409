use Rattle.std.proofs.Common.{◌≡◌, ◌++◌, drop, map}
use Rattle.line_moments.specs.Left.{left_from}
use Rattle.order_classes.specs.Shows.{seen}
use Rattle.world_shows.proofs.reading.left_behind.Given as goal

-- with those that are left they are all
abbrev pub invariant-loop-number : goal.invariant-loop-number
invariant-loop-number l = l.all ++ map seen (left_from l.number (drop l.number l.tables) l.world.world) ≡ map seen (left_from 0 l.tables l.world.world)
