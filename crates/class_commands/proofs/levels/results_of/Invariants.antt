use Rattle.std.proofs.Common.{take}
use Rattle.class_commands.specs.LevelParts.{AreResultsOf}
use Rattle.class_commands.proofs.levels.results_of.Given as goal

-- the results of the rows passed
abbrev pub invariant-loop-place : goal.invariant-loop-place
invariant-loop-place l = AreResultsOf (take l.place l.rows) l.results
