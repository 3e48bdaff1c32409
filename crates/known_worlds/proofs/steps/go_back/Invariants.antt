use Rattle.std.proofs.Common.{◌≡◌, ◌≤◌, length, take}
use Rattle.known_worlds.specs.Paths.{IsAlong}
use Rattle.known_worlds.proofs.steps.go_back.Given as goal

-- so many steps are left
abbrev pub invariant-later : goal.invariant-later
invariant-later l = record {
  along : IsAlong (take l.left l.line) l.world;
  few : l.left ≤ length l.line;
  more : l.shared ≤ l.left;
  file : l.world.file ≡ l.initial.world.file;
  numbers : l.world.numbers ≡ l.initial.world.numbers;
  told : l.world.told ≡ l.initial.world.told;
}

abbrev pub decreases-later : goal.decreases-later
decreases-later l = l.left
