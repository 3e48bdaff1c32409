use Rattle.std.proofs.Common.{◌≡◌, map, take}
use Rattle.class_commands.specs.Classing.{seen_of}
use Rattle.class_commands.proofs.telling.seen_over.Given as goal

-- what it sees of the classes passed
abbrev pub invariant-loop-row : goal.invariant-loop-row
invariant-loop-row l = map (λ v. v.items) l.seen.items ≡ map (seen_of l.look) (take l.row-index l.rows)
