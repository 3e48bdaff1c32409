use Rattle.std.proofs.Common.{sym, ap, ◌∙◌}
use Rattle.step_reducer.specs.Framed.{Stacked}
use Rattle.step_reducer.proofs.Framing.{frame-popped}
use Rattle.step_reducer.proofs.stack.Stack.pop.Goals as goal

pub returns-clause-popped : goal.returns-clause-popped
returns-clause-popped c = λ popped. (let x = c.self.inside in
    sym (ap (λ (s : Stacked). s.below) c.self.view_is)
    ∙ frame-popped x.below.items c.pop.new.self.items x.top c.in-Some.frame x.world c.go_back.new.self c.self.invariant c.in-Some.ensures.items
    c.go_back.ensures.marked c.go_back.ensures.of_spec c.go_back.ensures.whole)
