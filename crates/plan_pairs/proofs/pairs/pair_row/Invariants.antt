use Rattle.std.proofs.Common.{◌≡◌, map, take}
use Rattle.plan_pairs.specs.Requests.{all_fit}
use Rattle.plan_pairs.proofs.pairs.pair_row.Given as goal

-- what the step is beside the others so far
abbrev pub invariant-loop-other : goal.invariant-loop-other
invariant-loop-other l = l.fits.items ≡ map (all_fit l.step) (take l.other-index l.others)
