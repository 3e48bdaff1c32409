use Rattle.std.proofs.Common.{take}
use Rattle.schedule_counts.specs.States.{AreStatesOf}
use Rattle.schedule_counts.proofs.counting.states_of.Given as goal

abbrev pub invariant-loop-place : goal.invariant-loop-place
invariant-loop-place l = AreStatesOf l.search.tables l.search.seen l.search.shown (take l.place l.finals) l.states.items
