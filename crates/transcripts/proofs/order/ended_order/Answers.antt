use Rattle.std.proofs.Common.{sym, ◌∙◌}
use Rattle.std.specs.Ordering.{ordering_then}
use Rattle.std.specs.declared.cmp.Ordering.TheVariants.{Greater}
use Rattle.transcripts.proofs.SideBySide.{ended-longer}
use Rattle.transcripts.proofs.order.ended_order.Goals as goal

pub returns-then-place-a : goal.returns-then-place-a
returns-then-place-a c =
    c.then-then-place-a.ensures ∙ (λ i. ordering_then (c.cmp-then-place-a.ensures i) Greater)
    ∙ sym (c.loop-place.invariant.2
    ∙ ended-longer c.args.a.now c.args.b.now c.loop-place.place c.args.after_a c.args.after_b c.if-place-a.true c.if-place-b-2.false)
