use Rattle.std.proofs.Common.{◌≡◌, map, take}
use Rattle.file_blocks.specs.Blocks.{sent_tree}
use Rattle.spec_texts.specs.Statements.{statements_with}
use Rattle.spec_texts.proofs.statements.statements_with.Given as goal

abbrev pub invariant-loop-sent : goal.invariant-loop-sent
invariant-loop-sent l = l.all.items ≡ statements_with l.kind (map sent_tree (take l.sent-index l.blocks))
