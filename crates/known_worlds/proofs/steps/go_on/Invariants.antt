use Rattle.std.proofs.Common.{◌≡◌, take}
use Rattle.known_worlds.specs.Paths.{IsAlong}
use Rattle.known_worlds.proofs.steps.go_on.Given as goal

-- so many steps are sent
abbrev pub invariant-loop-place : goal.invariant-loop-place
invariant-loop-place l = record {
  along : IsAlong (take l.place l.line) l.world;
  file : l.world.file ≡ l.initial.world.file;
  numbers : l.world.numbers ≡ l.initial.world.numbers;
  told : l.world.told ≡ l.initial.world.told;
}
