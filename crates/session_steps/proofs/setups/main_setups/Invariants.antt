use Rattle.std.proofs.Common.{◌≡◌, [], drop}
use Rattle.machine_model.specs.Start.{main_setups}
use Rattle.session_steps.specs.Stage.{world_in}
use Rattle.session_steps.specs.SetUp.{IsReadyForMains}
use Rattle.session_steps.proofs.setups.main_setups.Given as goal

-- the setups that are left come to the same from here
abbrev pub invariant-loop-number : goal.invariant-loop-number
invariant-loop-number g l = record {
  ready : IsReadyForMains l.control (g.S.Stage.staged l.stage);
  ran : main_setups l.control 0 (world_in [] (g.S.Stage.staged l.fn.stage)) l.blocks
      ≡ main_setups l.control l.number (world_in [] (g.S.Stage.staged l.stage)) (drop l.number l.blocks);
  past : g.S.Stage.past l.stage ≡ g.S.Stage.past l.fn.stage;
}
