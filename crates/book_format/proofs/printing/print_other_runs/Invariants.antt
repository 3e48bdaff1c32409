use Rattle.std.specs.Prelude.{flat_map, take}
use Rattle.transcripts.specs.Counted.{Wrote}
use Rattle.compact_outcomes.specs.CompactTexts.{after_comma}
use Rattle.book_format.specs.Pieces.{run_text}
use Rattle.book_format.proofs.printing.print_other_runs.Given as goal

-- the first runs are written
abbrev pub invariant-loop-run : goal.invariant-loop-run
invariant-loop-run g l = Wrote g.W.Write.contents l.fn.out l.out (flat_map (after_comma run_text) (take l.run-index l.runs))
