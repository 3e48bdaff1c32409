use Rattle.std.proofs.Common.{◌≡◌, ◌++◌, flat_map, string_bytes, take}
use Rattle.spec_checks.specs.Idle.{number}
use Rattle.spec_checks.proofs.telling.push_all.Given as goal

abbrev pub invariant-loop-line : goal.invariant-loop-line
invariant-loop-line l = string_bytes l.told ≡ string_bytes l.fn.told ++ flat_map number (take l.line-index l.lines)
