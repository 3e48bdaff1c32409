use Rattle.std.proofs.Common.{◌≡◌, map, drop}
use Rattle.command_line.specs.Inputs.{repeats}
use Rattle.command_line.proofs.inputs.repeats.Given as goal

-- what is left of the paths decides
abbrev pub invariant-loop-path : goal.invariant-loop-path
invariant-loop-path l = repeats l.seen (map (λ p. p.now) (drop l.path-index l.paths)) ≡ repeats l.before (map (λ p. p.now) l.paths)
