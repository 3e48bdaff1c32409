use Rattle.std.proofs.Common.{◌≡◌, flat_map, take}
use Rattle.class_texts.specs.Expected.{expected_lines}
use Rattle.class_texts.proofs.expected.expectations_lines.Given as goal

-- what is expected of those passed is put
abbrev pub invariant-loop-expected : goal.invariant-loop-expected
invariant-loop-expected l = l.lines ≡ flat_map (expected_lines l.steps l.is_sample l.orders l.rows) (take l.expected-index l.expectations)
