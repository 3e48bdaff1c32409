use Rattle.std.proofs.Common.{◌≡◌, ◌++◌, drop}
use Rattle.std.specs.List.{filter}
use Rattle.spec_classes.specs.Tallies.{is_counted}
use Rattle.spec_classes.proofs.tallies.counted.Given as goal

abbrev pub invariant-loop-tally : goal.invariant-loop-tally
invariant-loop-tally l = l.some.items ++ filter is_counted (drop l.tally-index l.tallies) ≡ filter is_counted l.tallies
