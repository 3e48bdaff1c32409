use Rattle.std.proofs.Common.{◌++◌, sym, ap, ◌∙◌, suc, add-one, drop, drop-cons}
use Rattle.spec_classes.specs.Leading.{led}
use Rattle.spec_classes.proofs.leading.led_by.Goals as goal

pub loop-step-preserved : goal.loop-step-preserved
loop-step-preserved c = record {
  led = ap (λ k. c.lead.new.sent.items ++ led c.args.spec.now.run.steps c.lead.new.world.world (drop k c.args.line.now)) (add-one c.loop-step.step-index)
      ∙ c.in_ok-lead.ensures.led (drop (suc c.loop-step.step-index) c.args.line.now)
      ∙ ap (λ ks. c.loop-step.sent.items ++ led c.args.spec.now.run.steps c.loop-step.world.world ks) (sym (drop-cons c.args.line.now c.loop-step.step-index 0 c.loop-step-test.true))
      ∙ c.loop-step.invariant.led;
  whole = c.in_ok-lead.ensures.whole;
  marked = c.lead.ensures.marked ∙ c.loop-step.invariant.marked;
  of_spec = c.lead.ensures.of_spec ∙ c.loop-step.invariant.of_spec;
}
