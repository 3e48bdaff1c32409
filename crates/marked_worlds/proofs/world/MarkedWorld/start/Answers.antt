use Rattle.std.proofs.Common.{◌∙◌, sym, ap, subst, suc, add-one}
use Rattle.session_steps.specs.declared.point.Origin.TheVariants.{Setup}
use Rattle.session_steps.specs.Stage.{IsBlank, KnowsSetups}
use Rattle.marked_worlds.specs.Stages.{IsKnown}
use Rattle.marked_worlds.proofs.WorldLemmas.{setups-known}
use Rattle.marked_worlds.proofs.world.MarkedWorld.start.Goals as goal

pub run_setups-requires-clause-blank : goal.run_setups-requires-clause-blank
run_setups-requires-clause-blank c =
    subst (λ n. IsBlank n c.in_ok-stage.stage.now) (add-one c.sessions.result ∙ ap suc c.sessions.ensures.count) c.in_ok-stage.ensures.blank

pub run_setups-requires-clause-known : goal.run_setups-requires-clause-known
run_setups-requires-clause-known c =
    let run = c.args.spec.now.run in
    subst (λ numbers. KnowsSetups (IsKnown numbers Setup) run) (sym c.in_ok-stage.ensures.numbers) (setups-known run c.args.numbers.value c.requires)
