use Rattle.std.proofs.Common.{◌≡◌, ap, ◌∙◌, suc, ◌+◌, ◌≤◌, arith}
use Rattle.line_moments.specs.Left.{standings}
use Rattle.session_machine.specs.Running.{Running}
use Rattle.session_machine.specs.SharedStage.{staged_of}
use Rattle.session_machine.specs.Showing.{standings_in}
use Rattle.session_machine.proofs.WorldMoments.{standings-are}
use Rattle.session_machine.proofs.world.World.standings.Goals as goal

pub returns-clause-standings : goal.returns-clause-standings
returns-clause-standings c =
    let run = c.self.inside.spec.now.run in
    let stage = staged_of c.self.inside.stage in
    let settled = c.self.invariant c.if-self.false in
    let n = c.sessions-sessions.result in
    let is : n ≡ run.sessions = c.sessions-sessions.ensures.count in
    let all : n + 1 ≡ suc run.sessions = omega (arith, is) in
    let below : run.sessions ≤ suc run.sessions = omega arith in
    c.in_ok-standings.ensures ∙ (λ k. standings_in (is k) (all k) stage)
    ∙ standings-are run.steps (suc run.sessions) stage settled.stage settled.count run.sessions below
    ∙ ap (λ (v : Running). standings v.file.run.sessions v.world) c.self.view_is
