use Rattle.std.proofs.Common.{sym, ◌∙◌, ◌+◌, subst, Some, false}
use Rattle.step_reducer.specs.Saying.{giving_of}
use Rattle.step_reducer.specs.Walking.{walk_told, GivesRun}
use Rattle.step_reducer.proofs.Givings.{now, gives-rest, gives-run, stands-after-run, sent-after-run}
use Rattle.step_reducer.proofs.Walkings.{going-of, far-enough}
use Rattle.step_reducer.proofs.walker.Walker.next_run.Goals as goal

pub next_run-requires-clause-going : goal.next_run-requires-clause-going
next_run-requires-clause-going c =
    let x = c.self.inside in
    going-of x.spec.now x.reduce x.first x.end x.walk (c.self.invariant.0 c.if-self.false).walk

pub next_run-requires-clause-inside : goal.next_run-requires-clause-inside
next_run-requires-clause-inside c =
    let x = c.self.inside in
    far-enough x.spec.now x.reduce x.first x.end x.walk (c.self.invariant.0 c.if-self.false).walk

pub invariant_of-self-2 : goal.invariant_of-self-2
invariant_of-self-2 c =
    let x = c.self.inside in
    let none = sym c.in_default.is ∙ c.take.ensures.value in
    let standing = c.self.invariant.0 c.if-self.false in
    let given = giving_of (walk_told c.next_run.new.self) c.in_ok-given.given in
    let walked = c.in_ok-given.ensures.walked x.first standing.walk in (
      λ whole. stands-after-run x.spec.now x.reduce x.first x.at x.end x.sent x.walk c.next_run.new.self x.rest c.take.new.self
          given none c.take.ensures.after standing walked,
      sent-after-run x.spec.now x.reduce x.first x.at x.end x.sent x.walk c.next_run.new.self x.rest
          given none standing walked c.self.invariant.1,
    )

pub returns-in-Some-clause-run : goal.returns-in-Some-clause-run
returns-in-Some-clause-run c =
    let x = c.self.inside in
    gives-rest x.spec.now x.reduce x.first x.at x.end x.sent x.walk x.rest c.take.new.self x.is_spent
    c.in-Some.rest c.args.self.now c.in-Some.ensures.value c.take.ensures.after (c.self.invariant.0 c.if-self.false) c.self.view_is

pub returns-clause-run : goal.returns-clause-run
returns-clause-run c =
    let x = c.self.inside in
    let standing = c.self.invariant.0 c.if-self.false in
    let given = giving_of (walk_told c.next_run.new.self) c.in_ok-given.given in
    subst (λ run. GivesRun c.args.self.now (now x.spec.now x.reduce x.first given.run.end x.end (x.sent + given.sent) c.take.new.self false) (Some run))
    (sym c.in_ok-run.ensures)
    (gives-run x.spec.now x.reduce x.first x.at x.end x.sent x.walk c.next_run.new.self x.rest c.take.new.self x.is_spent given c.args.self.now
    (sym c.in_default.is ∙ c.take.ensures.value) c.take.ensures.after c.if-self.false
    standing (c.in_ok-given.ensures.walked x.first standing.walk) c.self.view_is)
