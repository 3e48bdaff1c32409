use Rattle.marked_worlds.proofs.WorldLemmas.{back-settled}
use Rattle.marked_worlds.proofs.world.MarkedWorld.go_back.Goals as goal

pub invariant_of-self : goal.invariant_of-self
invariant_of-self c =
    back-settled c.self.inside.spec.now c.self.inside.stage c.go_back.new.self c.self.inside.is_spent c.self.invariant c.go_back.ensures.numbers
    c.go_back.ensures.marked
