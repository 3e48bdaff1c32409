use Rattle.std.proofs.Common.{◌≡◌, ◌∙◌, sym, ap, subst, take, Some}
use Rattle.std.specs.Prelude.{IfSome, slice_get}
use Rattle.machine_model.specs.Outcome.{IsOutcomeOf}
use Rattle.machine_model.specs.World.{outcome_of}
use Rattle.session_steps.specs.Stage.{transcripts_of, world_in}
use Rattle.session_steps.proofs.Standing.{outcome-now, outcome-of}
use Rattle.marked_worlds.specs.Worlds.{MarkedRunning}
use Rattle.marked_worlds.proofs.world.MarkedWorld.outcome.Goals as goal

pub returns-clause-told : goal.returns-clause-told
returns-clause-told c =
    let run = c.self.inside.spec.now.run in
    c.in_ok-number.ensures.outcome ∙ ap (λ n. Some (transcripts_of (take n c.self.inside.stage.now.members))) c.sessions.ensures.count
    ∙ ap Some (sym (outcome-now run.steps run.sessions c.self.inside.stage.now)) ∙ ap (λ (v : MarkedRunning). Some (outcome_of v.file.run.sessions v.world)) c.self.view_is

pub returns-clause-own : goal.returns-clause-own
returns-clause-own c =
    let run = c.self.inside.spec.now.run in
    let stage = c.self.inside.stage.now in
    let told : slice_get c.number.new.self.told c.in_ok-number.field-0 ≡ Some (outcome_of run.sessions (world_in run.steps stage)) =
    c.in_ok-number.ensures.outcome ∙ ap (λ n. Some (transcripts_of (take n c.self.inside.stage.now.members))) c.sessions.ensures.count
    ∙ ap Some (sym (outcome-now run.steps run.sessions stage)) in
    subst (λ (v : MarkedRunning). IfSome (slice_get c.number.new.self.told c.in_ok-number.field-0) (IsOutcomeOf v.file.run)) c.self.view_is
    (subst (λ o. IfSome o (IsOutcomeOf run)) (sym told) (outcome-of run stage (c.self.invariant.now c.if-self.false)))
