use Rattle.std.proofs.Common.{◌≡◌, [], replicate}
use Rattle.marked_worlds.specs.Members.{no_kept}
use Rattle.marked_worlds.proofs.members.blank_members.Given as goal

-- so many sessions so far
abbrev pub invariant-loop-session : goal.invariant-loop-session
invariant-loop-session l = l.kept ≡ record { list = replicate l._session no_kept; marked = [] }
