use Rattle.std.proofs.Common.{◌≡◌, length}
use Rattle.machine_model.specs.World.{settle, left_to_do}
use Rattle.session_steps.specs.Stage.{world_in, IsStage}
use Rattle.session_steps.proofs.sending.settle.Given as goal

-- the world settles from here to the same
abbrev pub invariant-ripe : goal.invariant-ripe
invariant-ripe g l = record {
  settles : settle (world_in l.spec.run.steps (g.S.Stage.staged l.initial.stage)) ≡ settle (world_in l.spec.run.steps (g.S.Stage.staged l.stage));
  stage : IsStage l.spec.run.steps (g.S.Stage.staged l.stage);
  count : length (g.S.Stage.staged l.stage).members ≡ length (g.S.Stage.staged l.initial.stage).members;
  past : g.S.Stage.past l.stage ≡ g.S.Stage.past l.initial.stage;
}

abbrev pub decreases-ripe : goal.decreases-ripe
decreases-ripe g l = left_to_do (world_in l.spec.run.steps (g.S.Stage.staged l.stage))
