use Rattle.spec_reader.specs.Views.{session_tree}
use Rattle.file_blocks.proofs.FlatLemmas.{flat-more}
use Rattle.spec_checks.specs.Idle.{session_teardowns}
use Rattle.spec_checks.proofs.teardowns.push_sessions.Goals as goal

pub loop-session-preserved : goal.loop-session-preserved
loop-session-preserved c =
    flat-more session_teardowns session_tree c.args.sessions.now c.loop-session.session-index c.session-item.result c.session-item.is
    c.loop-session-test.true c.loop-session.all.items c.push_session.new.all.items c.args.all.now.items c.in_ok-push_session.ensures
    c.loop-session.invariant
