use Rattle.std.proofs.Common.{ap, ◌∙◌, ◌++◌, ◌∷◌, []}
use Rattle.step_reducer.specs.Framed.{Stacked}
use Rattle.step_reducer.proofs.Framing.{frame-kept}
use Rattle.step_reducer.proofs.stack.Stack.keep.Goals as goal

pub returns-clause-below : goal.returns-clause-below
returns-clause-below c =
    let x = c.self.inside in
    let whole = ap (λ (s : Stacked). s.top.world.spent) c.self.view_is ∙ c.requires.whole in
    frame-kept x.below.items c.push_reserved.new.self.items x.top c.copy.result x.world c.mark.new.world c.self.invariant
    (c.push_reserved.ensures.items ∙ ap (λ fs. fs ++ c.copy.result ∷ []) c.in_ok-reserve.ensures.items)
    c.copy.ensures.block c.copy.ensures.swaps whole c.in_ok-mark.ensures.marked
    ∙ ap (λ (s : Stacked). s.below ++ s.top ∷ []) c.self.view_is
