use Rattle.std.proofs.Common.{◌≡◌, min, take, length}
use Rattle.std.specs.Prelude.{flat_map}
use Rattle.compact_outcomes.specs.CompactTexts.{after_comma}
use Rattle.book_format.specs.Pieces.{run_text}
use Rattle.book_format.proofs.lengths.other_runs_len.Given as goal

-- the length of the first runs
abbrev pub invariant-loop-run : goal.invariant-loop-run
invariant-loop-run l = l.len ≡ min (length (flat_map (after_comma run_text) (take l.run-index l.runs))) 18446744073709551615
