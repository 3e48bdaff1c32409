use Rattle.std.proofs.Common.{◌≡◌, ◌∙◌, refl, sym, subst, ap, ◌≤◌, length, [], ◌∷◌, List, ◌⊎◌, inl, inr, arith, length-append}
use Rattle.step_reducer.specs.Framed.{Framed, Stacked}
use Rattle.step_reducer.specs.Walks.{HasParted}
use Rattle.step_reducer.proofs.Stacks.{stack-popped, parted-popped, stack-at, stack-alone}
use Rattle.step_reducer.proofs.stack.Stack.go_back.Goals as goal

pub shared-init : goal.shared-init
shared-init c = record { stack = λ reduce file last end lt is. (is, inl refl); told = refl }

pub shared-preserved : goal.shared-preserved
shared-preserved c = record {
  stack = λ reduce file last end lt is. (
      let x : Stacked = c.shared.self in
      let y : Stacked = c.pop.new.self in
      let popped = c.pop.ensures.popped c.if-not-pop.false in
      let so_far = c.shared.invariant.stack reduce file last end lt is in (
        stack-popped reduce file last end x y popped so_far.0,
        inr (parted-popped reduce file last c.args.at end c.args.self.now.top.block x y popped lt
            (subst (λ n. n ≤ c.args.at) c.end.ensures c.shared-test.true) so_far.0 so_far.1),
      ));
  told = c.pop.ensures.told ∙ c.shared.invariant.told;
}

pub shared-smaller : goal.shared-smaller
shared-smaller c = (let more = ap (λ (fs : List Framed). length fs) (c.pop.ensures.popped c.if-not-pop.false) in omega
    (arith, more, length-append c.pop.new.self.below (c.pop.new.self.top ∷ [])))

pub returns-then-not-pop-clause-at : goal.returns-then-not-pop-clause-at
returns-then-not-pop-clause-at c = λ reduce file end lt is.
    let all = stack-alone reduce file c.args.at end c.shared.self (c.pop.ensures.none c.if-not-pop.true) (c.shared.invariant.stack reduce file c.args.at end lt is).0 in
    absurd (omega (arith, all, lt, c.shared-test.true, c.end.ensures))

pub returns-then-not-pop-clause-parted : goal.returns-then-not-pop-clause-parted
returns-then-not-pop-clause-parted c = λ reduce file last end lt is.
    subst (λ (s : Stacked). (s.top.block ≡ c.args.self.now.top.block) ⊎ HasParted last c.args.at c.args.self.now.top.block s.top.block)
    (sym (c.pop.ensures.same c.if-not-pop.true)) (c.shared.invariant.stack reduce file last end lt is).1

pub returns-clause-at : goal.returns-clause-at
returns-clause-at c = λ reduce file end lt is.
    stack-at reduce file c.args.at end c.shared.self (omega (arith, c.shared-test.false, c.end.ensures)) (c.shared.invariant.stack reduce file c.args.at end lt is).0

pub returns-clause-parted : goal.returns-clause-parted
returns-clause-parted c = λ reduce file last end lt is. (c.shared.invariant.stack reduce file last end lt is).1
