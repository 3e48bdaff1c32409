use Rattle.std.proofs.Common.{ap, subst}
use Rattle.bound_specs.specs.Spec.{SpecFile}
use Rattle.spec_classes.specs.Serial.{AreOnce}
use Rattle.spec_classes.proofs.Answering.{all-answered}
use Rattle.spec_classes.proofs.serial.all_answers.Goals as goal

pub returns : goal.returns
returns c =
    all-answered c.args.tables.now c.args.spec.now.run c.args.world.now c.add_orders.new.world c.once-left.result c.new-answered.result c.add_orders.new.answered
    c.session_orders_are_all.ensures (ap (λ (f : SpecFile). f.run) c.requires.of_spec) c.requires.starts (subst (λ n. AreOnce n c.once-left.result) c.sessions.ensures.count c.once-left.ensures.once)
    c.new-answered.ensures.answers c.in_ok-add_orders.ensures
