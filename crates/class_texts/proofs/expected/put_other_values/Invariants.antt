use Rattle.std.proofs.Common.{◌≡◌, ◌++◌, flat_map, take}
use Rattle.class_texts.specs.Expected.{behind_value}
use Rattle.class_texts.proofs.expected.put_other_values.Given as goal

-- the values passed are put
abbrev pub invariant-loop-value : goal.invariant-loop-value
invariant-loop-value l = l.line ≡ l.fn.line ++ flat_map behind_value (take l.value-index l.values)
