-- What a stage of this machine is to a step that goes on it.
use Rattle.session_machine.specs.declared.stage.SharedStage.{SharedStage}
use Rattle.session_steps.specs.Stage.{Staged}

-- its rows, its locks and its sessions
abbrev pub staged_of : SharedStage → Staged
staged_of s = record { store = s.store; locks = s.locks; members = s.members.items }
