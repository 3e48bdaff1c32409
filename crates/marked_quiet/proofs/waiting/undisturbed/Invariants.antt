use Rattle.std.proofs.Common.{◌≡◌, ℕ, ◌<◌, true}
use Rattle.plan_pairs.specs.Pairs.{asked_at}
use Rattle.marked_quiet.specs.Waiting.{clear_of, wait_of}
use Rattle.marked_quiet.proofs.waiting.undisturbed.Given as goal

-- none of the sessions so far waits there
abbrev pub invariant-loop-other : goal.invariant-loop-other
invariant-loop-other l = (k : ℕ) → k < l.other
    → clear_of l.world.world l.session (asked_at l.world.file.run l.fn.step) (wait_of l.world.world k) ≡ true
