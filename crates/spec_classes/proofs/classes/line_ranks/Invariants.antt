use Rattle.std.proofs.Common.{◌≡◌, ◌<◌, All, map, take}
use Rattle.bound_specs.specs.Spec.{line_of, ranks as count_of}
use Rattle.spec_classes.proofs.classes.line_ranks.Given as goal

abbrev pub invariant-loop-rank : goal.invariant-loop-rank
invariant-loop-rank l = record { inside : All (λ r. r < count_of l.spec.run) l.ranks.items; all : map (line_of l.spec.run) l.ranks.items ≡ take l.rank l.spec.run.lines }
