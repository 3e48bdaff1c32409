use Rattle.std.proofs.Common.{All, length, string_bytes}
use Rattle.file_blocks.specs.Blocks.{sent_tree}
use Rattle.spec_findings.specs.Faults.{IsFaultOf}
use Rattle.spec_findings.proofs.PieceLemmas.{HasPassed}
use Rattle.spec_findings.proofs.faults.block_faults.Given as goal

abbrev pub invariant-pieces : goal.invariant-pieces
invariant-pieces l = record {
  passed : HasPassed (string_bytes l.sent.block.now.text) l.begin l.rest;
  faults : All (IsFaultOf (sent_tree l.sent)) l.all.items;
}

abbrev pub decreases-pieces : goal.decreases-pieces
decreases-pieces l = length l.rest
