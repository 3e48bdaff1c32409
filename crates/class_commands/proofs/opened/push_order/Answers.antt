use Rattle.std.proofs.Common.{◌∙◌, subst}
use Rattle.spec_commands.specs.Showing.{IsShowing}
use Rattle.spec_commands.specs.declared.showing.ShowForm.TheVariants.{Json}
use Rattle.class_commands.proofs.OpenedLemmas.{shown-line}
use Rattle.class_commands.proofs.opened.push_order.Goals as goal

pub returns-in-Ok-push_part-clause-pushed : goal.returns-in-Ok-push_part-clause-pushed
returns-in-Ok-push_part-clause-pushed c =
    let spec = c.args.spec.now in
    let showing = c.in-Ok.ensures.shown in
    let order = shown-line showing in (
      order.0,
      subst (IsShowing spec.text c.args.path.now spec c.args.rank Json) order.1 showing,
      c.in-Ok-push_part.ensures order.0 (c.deref.ensures.value ∙ order.1),
    )
