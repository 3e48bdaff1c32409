use Rattle.std.proofs.Common.{ap, ◌∙◌, refl}
use Rattle.order_classes.specs.Letters.{answers_of}
use Rattle.spec_classes.proofs.Answering.{run-one}
use Rattle.spec_classes.proofs.serial.add_answer.Goals as goal

pub returns : goal.returns
returns c =
    run-one c.args.tables.now c.args.world.now c.shows_of.new.world c.args.answered.now (record { answers = c.number.new.self; walked = c.args.answered.now.walked })
    c.in_ok-answer.answer c.in_ok-number.field-0 c.requires c.shows_of.ensures.same refl (c.in_ok-answer.ensures ∙ ap answers_of c.in_ok-shows.ensures.shows) c.in_ok-number.ensures.ok
