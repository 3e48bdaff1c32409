use Rattle.std.proofs.Common.{◌≡◌, ◌+◌, ap, ◌∙◌, suc, drop, length, Some, None, arith}
use Rattle.line_moments.specs.declared.moment.Manner.TheVariants.{IsNotSent}
use Rattle.session_machine.specs.SharedStage.{staged_of}
use Rattle.session_machine.specs.Telling.{moment_told}
use Rattle.session_machine.specs.declared.trace.Trace.{Trace}
use Rattle.session_machine.proofs.Seeing.{told-is}
use Rattle.session_machine.proofs.stage.SharedStage.skipped_moment.Goals as goal

pub returns : goal.returns
returns c =
    let steps = c.args.spec.now.run.steps in
    let x = staged_of c.args.before.now in
    let y = staged_of c.args.self.now in
    let i = c.args.session in
    let sessions = c.args.spec.now.run.sessions in
    let count : c.sessions-count.result + 1 ≡ suc sessions = omega (arith, c.sessions-count.ensures.count) in
    let events = c.in_ok-events.ensures ∙ (λ j. drop (length (c.log.ensures j)) (c.log-2.ensures j)) in
    told-is steps (c.sessions-count.result + 1) (suc sessions) x y i IsNotSent (Some c.args.step) c.of-trace.result _ _ _ c.in_ok-moment.moment count events
    c.in_ok-still.ensures c.in_ok-stale.ensures c.in_ok-moment.ensures
    ∙ ap (moment_told steps (suc sessions) x y i IsNotSent (Some c.args.step)) (c.of-trace.ensures ∙ ap (λ cs. let t : Trace = record { changes = cs; refusal = None } in t) c.new.ensures)
