use Rattle.std.proofs.Common.{◌≡◌, ◌++◌, drop}
use Rattle.line_moments.specs.Stale.{stale_of}
use Rattle.row_tables.specs.Layers.{sight}
use Rattle.session_machine.proofs.stage.SharedStage.note_reads.Given as goal

-- the reads so far are told
abbrev pub invariant-loop-read : goal.invariant-loop-read
invariant-loop-read l =
    l.stale ++ stale_of l.spec.run.steps l.session (sight l.session l.before.store) (sight l.session l.self.store) (drop l.read-index l.read-items)
    ≡ l.fn.stale ++ stale_of l.spec.run.steps l.session (sight l.session l.before.store) (sight l.session l.self.store) l.read-items
