use Rattle.std.proofs.Common.{◌≡◌, ◌++◌, flat_map, string_bytes, take}
use Rattle.class_commands.specs.Classing as spec
use Rattle.class_commands.proofs.filters.push_others.Given as goal

abbrev pub invariant-loop-filter : goal.invariant-loop-filter
invariant-loop-filter l = string_bytes l.text ≡ string_bytes l.fn.text ++ flat_map spec.behind_blank (take l.filter-index l.filters)
