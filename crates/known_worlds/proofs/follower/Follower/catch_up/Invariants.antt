use Rattle.std.proofs.Common.{◌≡◌, ◌-◌, false, true, length}
use Rattle.known_worlds.specs.Following.{aside, Follows}
use Rattle.known_worlds.proofs.follower.Follower.catch_up.Given as goal

-- the machine follows, with its mark at the start
abbrev pub invariant-made : goal.invariant-made
invariant-made l = record {
  follows : Follows l.fn.self.machine.file l.path l.self;
  whole : l.self.machine.spent ≡ false;
  rooted : l.self.is_rooted ≡ true;
  same : aside l.self.machine ≡ aside l.fn.self.machine;
}

abbrev pub decreases-made : goal.decreases-made
decreases-made l = length l.path - l.self.made
