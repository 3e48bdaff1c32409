use Rattle.std.specs.Prelude.{◌++◌, codes, flat_map, take}
use Rattle.transcripts.specs.Counted.{Wrote}
use Rattle.transcripts.specs.Text.{doubled}
use Rattle.transcripts.proofs.printing.print_quoted.Given as goal

-- the first bytes are written
abbrev pub invariant-loop-byte : goal.invariant-loop-byte
invariant-loop-byte g l = Wrote g.W.Write.contents l.fn.out l.out (codes "'" ++ flat_map doubled (take l.byte-index l.byte-items))
