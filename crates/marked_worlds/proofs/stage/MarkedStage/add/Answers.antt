use mathlib.Core.List.{IsPrefix}
use Rattle.std.proofs.Common.{◌∙◌, ap, map, refl, subst, sym, Some}
use Rattle.row_tables.specs.Layers.{Layers}
use Rattle.marked_worlds.specs.Stages.{MarkedStages, stage_seen, staged_of}
use Rattle.marked_worlds.proofs.SeenLemmas.{last-mapped, more-inside, more-stages, same-inside, same-stages, still-staged}
use Rattle.marked_worlds.proofs.stage.MarkedStage.add.Goals as goal

pub returns-in_err-stage-clause-front : goal.returns-in_err-stage-clause-front
returns-in_err-stage-clause-front c =
    let seen = stage_seen c.self.inside.locks.resources c.of.new.members.seen in
    subst (λ (v : MarkedStages). IsPrefix v.seen (map seen c.self.inside.seen.stages.items)) c.self.view_is
    (same-stages c.self.inside.locks.resources c.self.inside.members.seen c.of.new.members.seen c.of.ensures.front c.self.inside.seen.stages.items c.self.inside.seen.stages.items c.self.invariant.seen refl)

pub invariant_of-self-in_err-push : goal.invariant_of-self-in_err-push
invariant_of-self-in_err-push c =
    still-staged c.self.inside.numbers.value c.self.inside.rows c.self.inside.locks c.self.inside.members c.of.new.members c.self.inside.seen.stages.items c.push.new.self.items c.self.invariant c.of.ensures.same
    (same-inside c.self.inside.locks.resources c.self.inside.members.seen c.of.new.members.seen c.of.ensures.front c.self.inside.seen.stages.items c.push.new.self.items c.self.invariant.seen c.in_err-push.ensures.items)

pub returns-in_err-push-clause-front : goal.returns-in_err-push-clause-front
returns-in_err-push-clause-front c =
    let seen = stage_seen c.self.inside.locks.resources c.of.new.members.seen in
    subst (λ (v : MarkedStages). IsPrefix v.seen (map seen c.push.new.self.items)) c.self.view_is
    (same-stages c.self.inside.locks.resources c.self.inside.members.seen c.of.new.members.seen c.of.ensures.front c.self.inside.seen.stages.items c.push.new.self.items c.self.invariant.seen c.in_err-push.ensures.items)

pub invariant_of-self-in_err-insert : goal.invariant_of-self-in_err-insert
invariant_of-self-in_err-insert c =
    still-staged c.self.inside.numbers.value c.self.inside.rows c.self.inside.locks c.self.inside.members c.of.new.members c.self.inside.seen.stages.items c.push.new.self.items c.self.invariant c.of.ensures.same
    (more-inside c.self.inside.locks.resources c.self.inside.members.seen c.of.new.members.seen c.of.ensures.front c.self.inside.seen.stages.items c.push.new.self.items c.self.invariant.seen c.in_ok-stage.stage c.in_ok-push.ensures.items c.in_ok-stage.ensures.inside)

pub returns-in_err-insert-clause-front : goal.returns-in_err-insert-clause-front
returns-in_err-insert-clause-front c =
    let seen = stage_seen c.self.inside.locks.resources c.of.new.members.seen in
    subst (λ (v : MarkedStages). IsPrefix v.seen (map seen c.push.new.self.items)) c.self.view_is
    (more-stages c.self.inside.locks.resources c.self.inside.members.seen c.of.new.members.seen c.of.ensures.front c.self.inside.seen.stages.items c.push.new.self.items c.self.invariant.seen c.in_ok-stage.stage c.in_ok-push.ensures.items)

pub invariant_of-self-2 : goal.invariant_of-self-2
invariant_of-self-2 c =
    still-staged c.self.inside.numbers.value c.self.inside.rows c.self.inside.locks c.self.inside.members c.of.new.members c.self.inside.seen.stages.items c.push.new.self.items c.self.invariant c.of.ensures.same
    (more-inside c.self.inside.locks.resources c.self.inside.members.seen c.of.new.members.seen c.of.ensures.front c.self.inside.seen.stages.items c.push.new.self.items c.self.invariant.seen c.in_ok-stage.stage c.in_ok-push.ensures.items c.in_ok-stage.ensures.inside)

pub returns-clause-known : goal.returns-clause-known
returns-clause-known c =
    last-mapped (stage_seen c.self.inside.locks.resources c.of.new.members.seen) c.self.inside.seen.stages.items c.push.new.self.items c.in_ok-stage.stage
    c.in_ok-push.ensures.items c.len-number.result (c.len-number.ensures ∙ c.self.inside.seen.stages.ok.0)
    ∙ ap Some (c.in_ok-stage.ensures.seen
    ∙ ap (λ (rows : Layers). staged_of rows c.self.inside.locks.now c.self.inside.members.list) (c.requires.rows ∙ sym (ap (λ (v : MarkedStages). v.now.store) c.self.view_is))
    ∙ ap (λ (v : MarkedStages). v.now) c.self.view_is)

pub returns-clause-front : goal.returns-clause-front
returns-clause-front c =
    let seen = stage_seen c.self.inside.locks.resources c.of.new.members.seen in
    subst (λ (v : MarkedStages). IsPrefix v.seen (map seen c.push.new.self.items)) c.self.view_is
    (more-stages c.self.inside.locks.resources c.self.inside.members.seen c.of.new.members.seen c.of.ensures.front c.self.inside.seen.stages.items c.push.new.self.items c.self.invariant.seen c.in_ok-stage.stage c.in_ok-push.ensures.items)
