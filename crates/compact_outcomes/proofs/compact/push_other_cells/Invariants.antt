use Rattle.std.proofs.Common.{◌≡◌, ◌++◌, take}
use Rattle.std.specs.Prelude.{flat_map, string_bytes}
use Rattle.compact_outcomes.specs.CompactTexts.{after_comma}
use Rattle.compact_outcomes.specs.CompactTexts.{cell_text}
use Rattle.compact_outcomes.proofs.compact.push_other_cells.Given as goal

-- the first values are pushed
abbrev pub invariant-loop-value : goal.invariant-loop-value
invariant-loop-value l = string_bytes l.text ≡ string_bytes l.fn.text ++ flat_map (after_comma cell_text) (take l.value-index l.values)
