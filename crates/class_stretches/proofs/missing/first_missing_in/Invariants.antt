use Rattle.std.proofs.Common.{◌≡◌, None, drop}
use Rattle.class_stretches.specs.Stretches.{first_of, runs_with}
use Rattle.class_stretches.proofs.missing.first_missing_in.Given as goal

-- no stretch before this one is of no known class
abbrev pub invariant-loop-stretch : goal.invariant-loop-stretch
invariant-loop-stretch l = first_of (runs_with None l.low (drop l.stretch-index l.list)) ≡ first_of (runs_with None 0 l.list)
