use Rattle.std.proofs.Common.{◌≡◌, ap, ◌∙◌, ◌-◌, false, true, arith}
use Rattle.known_worlds.specs.Paths.{first_world}
use Rattle.step_reducer.specs.Fronts.{line_before}
use Rattle.step_reducer.proofs.walk.Walk.start.Goals as goal

pub returns-in_ok-walk-in-Some-clause-started : goal.returns-in_ok-walk-in-Some-clause-started
returns-in_ok-walk-in-Some-clause-started c = (c.in_ok-start-in-Some.start.world, c.in_ok-start-in-Some.ensures.started)

pub returns-in_ok-walk-in-None-clause-walk : goal.returns-in_ok-walk-in-None-clause-walk
returns-in_ok-walk-in-None-clause-walk c =
    let made = c.in_ok-walk-in-None.ensures in
    let at = made.at in
    let none : 0 ≡ c.in_ok-walk-in-None.walk.at - c.args.first = omega (arith, at) in
    record {
      walk = made.walk;
      lines = λ words. (let bad : false ≡ true = c.in-None.ensures.words.1 words in cc);
      line = made.line ∙ ap (line_before c.args.spec.now.run c.args.first) none;
      from = omega (arith, at);
      few = omega (arith, at, c.requires.order);
      known = c.requires.few;
    }

pub returns-in_ok-walk-in-None-clause-started : goal.returns-in_ok-walk-in-None-clause-started
returns-in_ok-walk-in-None-clause-started c = (first_world c.args.spec.now.run, c.in_ok-walk-in-None.ensures.walk.starts)
