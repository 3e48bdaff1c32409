use Rattle.std.proofs.Common.{◌≡◌, sym, ap, ◌∙◌, subst, take}
use Rattle.machine_model.specs.World.{outcome_of}
use Rattle.machine_model.specs.Outcome.{IsOutcomeOf}
use Rattle.session_machine.specs.Running.{Running}
use Rattle.session_steps.specs.Stage.{world_in, transcripts_of}
use Rattle.session_steps.proofs.Standing.{outcome-now, outcome-of}
use Rattle.session_machine.specs.SharedStage.{staged_of}
use Rattle.session_machine.proofs.world.World.outcome.Goals as goal

pub returns-clause-told : goal.returns-clause-told
returns-clause-told c =
    let steps = c.self.inside.spec.now.run.steps in
    let stage = staged_of c.self.inside.stage in
    let n = c.self.inside.spec.now.run.sessions in
    let count : c.sessions-sessions.result ≡ n = c.sessions-sessions.ensures.count in
    c.in_ok-new.ensures ∙ c.in_ok-transcripts.ensures ∙ ap (λ ms. transcripts_of (take c.sessions-sessions.result ms)) c.deref.ensures.value
    ∙ ap (λ k. transcripts_of (take k stage.members)) count
    ∙ sym (outcome-now steps n stage) ∙ ap (λ (v : Running). outcome_of v.file.run.sessions v.world) c.self.view_is

pub returns-clause-own : goal.returns-clause-own
returns-clause-own c =
    let run = c.self.inside.spec.now.run in
    let stage = staged_of c.self.inside.stage in
    let count : c.sessions-sessions.result ≡ run.sessions = c.sessions-sessions.ensures.count in
    let told : c.in_ok-new.field-0 ≡ outcome_of run.sessions (world_in run.steps stage) =
    c.in_ok-new.ensures ∙ c.in_ok-transcripts.ensures ∙ ap (λ ms. transcripts_of (take c.sessions-sessions.result ms)) c.deref.ensures.value
    ∙ ap (λ k. transcripts_of (take k stage.members)) count ∙ sym (outcome-now run.steps run.sessions stage) in
    subst (λ (v : Running). IsOutcomeOf v.file.run c.in_ok-new.field-0) c.self.view_is
    (subst (IsOutcomeOf run) (sym told) (outcome-of run stage (c.self.invariant c.if-self.false)))
