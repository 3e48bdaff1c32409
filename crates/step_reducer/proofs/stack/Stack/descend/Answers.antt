use Rattle.std.proofs.Common.{ap, ◌∙◌, subst, ◌≤◌, ◌⊎◌, inl, inr, arith}
use Rattle.perm_ranks.specs.Blocks.{end_of}
use Rattle.step_reducer.specs.declared.frame.Turn.{Turn}
use Rattle.step_reducer.specs.Framed.{Framed, Stacked}
use Rattle.step_reducer.specs.Walks.{HasTurned}
use Rattle.step_reducer.proofs.Stacks.{gone-alone, gone-kept}
use Rattle.step_reducer.proofs.stack.Stack.descend.Goals as goal
use Rattle.step_reducer.proofs.stack.Stack.descend.Goals.{then-behind-end+then-behind-end-2+in_ok-keep, else-behind-end}
use Rattle.step_reducer.proofs.stack.Stack.descend.Goals.{else-behind-end-via-then-behind-end+else-behind-end-2, else-behind-end-via-else-behind-end}

pub returns-clause-gone : goal.returns-clause-gone
returns-clause-gone c = λ reduce file at lt is turn unlisted.
    let x : Stacked = c.args.self.now in
    let y : Stacked = c.go.new.self in
    let u : Turn = c.args.turn in
    elim c.if-behind-end.branch [
      | then-behind-end+then-behind-end-2+in_ok-keep w ↦
          gone-kept reduce file at c.args.end x y u is turn unlisted
          (subst (λ (f : Framed). HasTurned f u y.top) (ap (λ (s : Stacked). s.top) w.self-is ∙ w.in_ok-keep.ensures.top) c.in_ok-go.ensures.turned)
          (c.in_ok-go.ensures.below ∙ ap (λ (s : Stacked). s.below) w.self-is ∙ w.in_ok-keep.ensures.below)
      | else-behind-end w ↦
          gone-alone reduce file at c.args.end x y u is turn unlisted
          (subst (λ (f : Framed). HasTurned f u y.top) (ap (λ (s : Stacked). s.top) w.self-is) c.in_ok-go.ensures.turned)
          (c.in_ok-go.ensures.below ∙ ap (λ (s : Stacked). s.below) w.self-is)
          (let last : (c.args.end ≤ end_of u.block) ⊎ (end_of x.top.block ≤ end_of u.block) =
          elim w.else-behind-end.branch [
            | else-behind-end-via-then-behind-end+else-behind-end-2 v ↦ inr (omega (arith, v.if-behind-end-2.false, v.end.ensures, c.end-behind.ensures.end))
            | else-behind-end-via-else-behind-end v ↦ inl (omega (arith, v.if-behind-end.false, c.end-behind.ensures.end))
          ] in last)
    ]
