use Rattle.std.proofs.Common.{[]}
use Rattle.file_blocks.specs.Blocks.{SentTree, sent_tree}
use Rattle.file_blocks.proofs.FlatLemmas.{flat-more}
use Rattle.spec_texts.specs.Statements.{with_in}
use Rattle.spec_texts.proofs.statements.statements_with.Goals as goal

pub loop-sent-preserved : goal.loop-sent-preserved
loop-sent-preserved c =
    flat-more (λ (p : SentTree). with_in c.args.kind p.block) sent_tree c.args.blocks.now c.loop-sent.sent-index c.sent-item.result c.sent-item.is
    c.loop-sent-test.true c.loop-sent.all.items c.push_block.new.all.items [] c.in_ok-push_block.ensures c.loop-sent.invariant
