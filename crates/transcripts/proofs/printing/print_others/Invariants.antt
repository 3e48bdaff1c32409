use Rattle.std.specs.Prelude.{flat_map, take}
use Rattle.transcripts.specs.Counted.{Wrote}
use Rattle.transcripts.specs.Text.{barred}
use Rattle.transcripts.proofs.printing.print_others.Given as goal

-- the first values are written
abbrev pub invariant-loop-value : goal.invariant-loop-value
invariant-loop-value g l = Wrote g.W.Write.contents l.fn.out l.out (flat_map barred (take l.value-index l.values))
