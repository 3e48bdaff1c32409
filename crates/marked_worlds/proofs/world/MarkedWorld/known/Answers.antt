use Rattle.std.proofs.Common.{◌≡◌, subst, false}
use Rattle.std.specs.Prelude.{All}
use Rattle.marked_worlds.specs.Worlds.{MarkedRunning, IsOfSpec}
use Rattle.marked_worlds.proofs.WorldLemmas.{of-spec, all-of-spec}
use Rattle.marked_worlds.proofs.world.MarkedWorld.known.Goals as goal

pub returns-clause-now : goal.returns-clause-now
returns-clause-now c =
    let file = c.self.inside.spec.now in
    subst (λ (v : MarkedRunning). v.spent ≡ false → IsOfSpec v.file v.world) c.self.view_is
    (λ whole. of-spec file c.self.inside.stage.now (c.self.invariant.now whole))

pub returns-clause-marked : goal.returns-clause-marked
returns-clause-marked c =
    subst (λ (v : MarkedRunning). All (IsOfSpec v.file) v.marked) c.self.view_is
    (all-of-spec c.self.inside.spec.now c.self.inside.stage.marked c.self.invariant.marked)
