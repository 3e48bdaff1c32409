use Rattle.shown_values.specs.Page.{open_of}
use Rattle.shown_values.proofs.Opening.{none-next, some-next}
use Rattle.shown_values.proofs.show.push_open.Goals as goal
use Rattle.shown_values.proofs.show.push_open.Goals.{in-Some+in_ok-push_before+in_ok-push_standing, in_default}

-- a session that has not ended is pushed, and one that has is not
pub loop-session-preserved : goal.loop-session-preserved
loop-session-preserved c =
    elim c.match-open_word.branch [
      | in-Some+in_ok-push_before+in_ok-push_standing w ↦
          rw (w.place-is, w.out-is)
          (some-next open_of _ _ _ _ _ _ _ _ _ c.loop-session-test.true c.standing-item.is (w.in-Some.ensures _) w.in_ok-push_before.ensures
          w.in_ok-push_standing.ensures c.loop-session.invariant)
      | in_default w ↦
          rw (w.place-is, w.out-is) (none-next open_of _ _ _ _ _ _ c.loop-session-test.true c.standing-item.is (w.in_default.ensures _) c.loop-session.invariant)
    ]
