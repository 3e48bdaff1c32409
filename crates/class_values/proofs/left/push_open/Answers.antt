use Rattle.std.proofs.lemmas.List.{get_or_default}
use Rattle.shown_values.proofs.Opening.{none-next, some-next}
use Rattle.class_values.specs.Class.{open_of}
use Rattle.class_values.proofs.left.push_open.Goals as goal
use Rattle.class_values.proofs.left.push_open.Goals.{in-Some+in_ok-push_before+in_ok-push_standing, in_default}

-- a session that has not ended is pushed, and one that has is not
pub loop-session-preserved : goal.loop-session-preserved
loop-session-preserved c =
    let below = c.loop-session-test.true in
    elim c.match-open_word.branch [
      | in-Some+in_ok-push_before+in_ok-push_standing w ↦
          rw (w.place-is, w.out-is)
          (some-next open_of _ _ _ _ _ _ _ _ _ below (get_or_default _ _ _ _ below) (w.in-Some.ensures _) w.in_ok-push_before.ensures
          w.in_ok-push_standing.ensures c.loop-session.invariant)
      | in_default w ↦
          rw (w.place-is, w.out-is) (none-next open_of _ _ _ _ _ _ below (get_or_default _ _ _ _ below) (w.in_default.ensures _) c.loop-session.invariant)
    ]
