use Rattle.std.proofs.Common.{map}
use Rattle.spec_reader.specs.Views.{session_tree}
use Rattle.file_blocks.specs.Blocks.{sent_tree, session_blocks}
use Rattle.file_blocks.proofs.FlatLemmas.{flat-more}
use Rattle.file_blocks.proofs.blocks.push_sessions.Goals as goal

pub loop-session-preserved : goal.loop-session-preserved
loop-session-preserved c =
    flat-more session_blocks session_tree c.args.sessions.now c.loop-session.session-index c.session-item.result c.session-item.is c.loop-session-test.true
    (map sent_tree c.loop-session.all.items) (map sent_tree c.push_session.new.all.items) (map sent_tree c.args.all.now.items)
    c.in_ok-push_session.ensures c.loop-session.invariant
