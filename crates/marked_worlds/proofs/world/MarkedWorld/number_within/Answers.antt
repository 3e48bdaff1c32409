use mathlib.Core.List.{IsPrefix}
use Rattle.std.proofs.Common.{◌≡◌, map, subst, Some}
use Rattle.std.specs.Prelude.{IfSome, slice_get}
use Rattle.session_steps.specs.Stage.{world_in}
use Rattle.marked_worlds.specs.Worlds.{MarkedRunning}
use Rattle.marked_worlds.proofs.SeenLemmas.{known-mapped, prefix-mapped}
use Rattle.marked_worlds.proofs.world.MarkedWorld.number_within.Goals as goal

pub returns-in_err-note_within-clause-front : goal.returns-in_err-note_within-clause-front
returns-in_err-note_within-clause-front c =
    let world = world_in c.self.inside.spec.now.run.steps in
    subst (λ (v : MarkedRunning). IsPrefix v.seen (map world c.note_within.new.self.seen)) c.self.view_is
    (prefix-mapped world c.self.inside.stage.seen c.note_within.new.self.seen c.note_within.ensures.front)

pub returns-clause-known : goal.returns-clause-known
returns-clause-known c =
    let world = world_in c.self.inside.spec.now.run.steps in
    subst (λ (v : MarkedRunning). IfSome c.in_ok-note_within.field-0 (λ number. slice_get (map world c.note_within.new.self.seen) number ≡ Some v.world)) c.self.view_is
    (known-mapped world c.in_ok-note_within.field-0 c.note_within.new.self.seen c.self.inside.stage.now c.in_ok-note_within.ensures.known)

pub returns-clause-front : goal.returns-clause-front
returns-clause-front c =
    let world = world_in c.self.inside.spec.now.run.steps in
    subst (λ (v : MarkedRunning). IsPrefix v.seen (map world c.note_within.new.self.seen)) c.self.view_is
    (prefix-mapped world c.self.inside.stage.seen c.note_within.new.self.seen c.note_within.ensures.front)
