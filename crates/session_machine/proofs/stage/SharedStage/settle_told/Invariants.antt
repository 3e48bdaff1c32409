use Rattle.std.proofs.Common.{◌≡◌, ◌++◌, length}
use Rattle.machine_model.specs.World.{settle, left_to_do}
use Rattle.session_steps.specs.Stage.{world_in, IsStage}
use Rattle.session_machine.specs.SharedStage.{staged_of}
use Rattle.session_machine.specs.Telling.{settling}
use Rattle.session_machine.proofs.stage.SharedStage.settle_told.Given as goal

-- the world settles from here to the same, and what is told with what is left to tell is all
abbrev pub invariant-ripe : goal.invariant-ripe
invariant-ripe l = record {
  settles : settle (world_in l.spec.run.steps (staged_of l.initial.self)) ≡ settle (world_in l.spec.run.steps (staged_of l.self));
  stage : IsStage l.spec.run.steps (staged_of l.self);
  count : length l.self.members.items ≡ length l.initial.self.members.items;
  tells : l.told ++ settling l.spec.run.steps (world_in l.spec.run.steps (staged_of l.self))
      ≡ l.initial.told ++ settling l.spec.run.steps (world_in l.spec.run.steps (staged_of l.initial.self));
}

abbrev pub decreases-ripe : goal.decreases-ripe
decreases-ripe l = left_to_do (world_in l.spec.run.steps (staged_of l.self))
