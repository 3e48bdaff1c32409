use Rattle.std.proofs.Common.{◌≡◌, [], suc, length, drop}
use Rattle.machine_model.specs.Start.{session_setups}
use Rattle.session_steps.specs.Stage.{world_in}
use Rattle.session_steps.specs.SetUp.{IsReadyForSessions}
use Rattle.session_steps.proofs.setups.session_setups.Given as goal

-- the setups that are left come to the same from here
abbrev pub invariant-loop-number : goal.invariant-loop-number
invariant-loop-number g l = record {
  ready : IsReadyForSessions (suc (length l.blocks)) (g.S.Stage.staged l.stage);
  ran : session_setups 0 (world_in [] (g.S.Stage.staged l.fn.stage)) l.blocks
      ≡ session_setups l.number (world_in [] (g.S.Stage.staged l.stage)) (drop l.number l.blocks);
  past : g.S.Stage.past l.stage ≡ g.S.Stage.past l.fn.stage;
}
