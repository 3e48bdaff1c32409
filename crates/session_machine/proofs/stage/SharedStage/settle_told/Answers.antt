use Rattle.std.proofs.Common.{◌++◌, sym, ap, ◌∙◌, subst, ◌<◌, length, [], ◌∷◌, append_assoc, append-nil}
use Rattle.line_moments.specs.Moments.{GoesOn}
use Rattle.session_steps.specs.Stage.{world_in}
use Rattle.session_machine.specs.SharedStage.{staged_of}
use Rattle.session_machine.specs.Telling.{moment_in, settling}
use Rattle.session_steps.proofs.Stages.{session-known, next-in-world, none-in-world}
use Rattle.session_steps.proofs.Standing.{settled-now}
use Rattle.session_machine.proofs.WorldMoments.{settling-none, settling-grant}
use Rattle.session_machine.proofs.stage.SharedStage.settle_told.Goals as goal

-- who waits is a session of the world
pub resume_told-requires-clause-inside : goal.resume_told-requires-clause-inside
resume_told-requires-clause-inside c =
    let next = c.in-Some.ensures in
    subst (λ i. i < length c.ripe.self.members.items) next.2 (session-known c.args.spec.now.run.steps (staged_of c.ripe.self) next.0 c.ripe.invariant.stage next.1)

-- its moment is the next one
pub ripe-preserved : goal.ripe-preserved
ripe-preserved c =
    let steps = c.args.spec.now.run.steps in
    let x = staged_of c.ripe.self in
    let y = staged_of c.resume_told.new.self in
    let s = c.in-Some.ensures.0 in
    let next = c.in-Some.ensures.1 in
    let before = c.ripe.told in
    let first = moment_in steps x (GoesOn s) in
    let resumed = c.in_ok-resume_told.ensures.resumed in
    record {
      settles = c.ripe.invariant.settles ∙ resumed.settles;
      stage = resumed.stage;
      count = resumed.count ∙ c.ripe.invariant.count;
      tells = ap (λ ms. ms ++ settling steps (world_in steps y)) (c.in_ok-resume_told.ensures.told s next c.in-Some.ensures.2)
          ∙ append_assoc before (first ∷ []) (settling steps (world_in steps y))
          ∙ ap (λ w. before ++ first ∷ settling steps w) (resumed.grants s next)
          ∙ ap (λ ms. before ++ ms)
          (sym (settling-grant steps (world_in steps x) s c.ripe.invariant.stage.steady (next-in-world steps x s c.ripe.invariant.stage next)))
          ∙ c.ripe.invariant.tells;
    }

-- nothing is ripe
pub returns-clause-settled : goal.returns-clause-settled
returns-clause-settled c = sym (c.ripe.invariant.settles ∙ settled-now c.args.spec.now.run.steps (staged_of c.ripe.self) c.ripe.invariant.stage c.in_default.ensures)

pub returns-clause-told : goal.returns-clause-told
returns-clause-told c =
    let steps = c.args.spec.now.run.steps in
    let x = staged_of c.ripe.self in
    sym (append-nil c.ripe.told)
    ∙ ap (λ ms. c.ripe.told ++ ms)
    (sym (settling-none steps (world_in steps x) (none-in-world steps x c.ripe.invariant.stage c.in_default.ensures)))
    ∙ c.ripe.invariant.tells
