use Rattle.std.proofs.Common.{ap, ◌∙◌, suc, ◌≤◌, arith}
use Rattle.line_moments.specs.Left.{begun}
use Rattle.session_machine.specs.Running.{Running}
use Rattle.session_machine.specs.SharedStage.{staged_of}
use Rattle.session_machine.specs.Showing.{begun_in}
use Rattle.session_machine.proofs.WorldMoments.{begun-is}
use Rattle.session_machine.proofs.world.World.begun.Goals as goal

pub returns-clause-begun : goal.returns-clause-begun
returns-clause-begun c =
    let run = c.self.inside.spec.now.run in
    let stage = staged_of c.self.inside.stage in
    let settled = c.self.invariant c.if-self.false in
    let below : run.sessions ≤ suc run.sessions = omega arith in
    c.in_ok-begun.ensures ∙ ap (λ n. begun_in n stage) c.sessions.ensures.count
    ∙ begun-is run.steps (suc run.sessions) stage settled.stage settled.count run.sessions below
    ∙ ap (λ (v : Running). begun v.file.run.sessions v.world) c.self.view_is
