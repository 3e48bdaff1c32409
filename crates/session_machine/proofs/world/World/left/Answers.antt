use Rattle.std.proofs.Common.{ap, ◌∙◌}
use Rattle.line_moments.specs.Left.{left_in}
use Rattle.session_machine.specs.Running.{Running}
use Rattle.session_steps.specs.Stage.{world_in}
use Rattle.session_machine.specs.SharedStage.{staged_of}
use Rattle.session_machine.proofs.Committed.{lefts-are}
use Rattle.session_machine.proofs.world.World.left.Goals as goal

pub returns-clause-left : goal.returns-clause-left
returns-clause-left c =
    c.in_ok-lefts.ensures ∙ lefts-are c.args.tables.now (world_in c.self.inside.spec.now.run.steps (staged_of c.self.inside.stage)) 0
    ∙ ap (λ (v : Running). left_in c.args.tables.now v.world) c.self.view_is
