use Rattle.std.proofs.Common.{All, map}
use Rattle.file_blocks.specs.Blocks.{sent_tree}
use Rattle.spec_findings.specs.Faults.{IsFaultIn}
use Rattle.spec_findings.proofs.faults.faults_of.Given as goal

abbrev pub invariant-loop-sent : goal.invariant-loop-sent
invariant-loop-sent l = All (IsFaultIn (map sent_tree l.blocks)) l.all.items
