use Rattle.std.proofs.Common.{rules, ◌≡◌, sym, ap, ◌∙◌, subst}
use Rattle.bound_specs.specs.Spec.{line_of}
use Rattle.spec_schedules.specs.declared.kind.Kind.TheVariants.{Schedules}
use Rattle.spec_schedules.specs.Ranked.{IsOrderAt}
use Rattle.marked_worlds.specs.Worlds.{MarkedRunning}
use Rattle.spec_classes.specs.Leading.{led}
use Rattle.spec_classes.proofs.Led.{schedule-led}
use Rattle.spec_classes.proofs.leading.schedule.Goals as goal

pub unreachable-requires : goal.unreachable-requires
unreachable-requires c =
    let run = c.args.spec.now.run in
    let at = schedule-led run c.args.world.now.world c.args.rank c.requires.some.0 c.permutations_are_ranked.ensures c.requires.words c.requires.at.starts c.requires.some.1 in
    search (rules, c.line.ensures.some.1 at.0, c.in_default.is)

pub returns-clause-order : goal.returns-clause-order
returns-clause-order c =
    let run = c.args.spec.now.run in
    let at = schedule-led run c.args.world.now.world c.args.rank c.requires.some.0 c.permutations_are_ranked.ensures c.requires.words c.requires.at.starts c.requires.some.1 in
    let is : c.in_ok-led.led.items ≡ led run.steps c.args.world.now.world (line_of run c.args.rank) =
    c.in_ok-led.ensures.led ∙ ap (λ w. led run.steps w c.as_slice.result.now) (ap (λ (m : MarkedRunning). m.world) c.in_ok-mark.ensures.marked)
    ∙ ap (led run.steps c.args.world.now.world) (c.as_slice.ensures.value ∙ c.in-Some.ensures.line) in
    subst (λ l. IsOrderAt Schedules run c.args.rank l) (sym is) at.1
