use Rattle.std.proofs.Common.{sym, subst}
use Rattle.session_steps.specs.Stage.{IsSettled}
use Rattle.session_machine.proofs.world.World.fork.Goals as goal

pub invariant_of-result : goal.invariant_of-result
invariant_of-result c = λ whole. subst (IsSettled c.self.inside.spec.now.run.sessions c.self.inside.spec.now.run.steps) (sym c.in_ok-fork.ensures)
    (c.self.invariant c.if-self.false)
