use Rattle.std.proofs.Common.{ap, ◌∙◌, subst}
use Rattle.session_machine.specs.Running.{Running, IsKnown}
use Rattle.session_steps.proofs.Standing.{length-world, sound-now, outcome-of}
use Rattle.session_machine.specs.SharedStage.{staged_of}
use Rattle.session_machine.proofs.world.World.known.Goals as goal

pub returns-clause-known : goal.returns-clause-known
returns-clause-known c = λ whole.
    let run = c.self.inside.spec.now.run in
    let stage = staged_of c.self.inside.stage in
    let settled = c.self.invariant (ap (λ (v : Running). v.spent) c.self.view_is ∙ whole) in
    subst IsKnown c.self.view_is (record {
      sound = sound-now run.sessions run.steps stage settled;
      sessions = length-world run.steps stage ∙ settled.count;
      own = outcome-of run stage settled;
    })
