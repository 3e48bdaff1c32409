use Rattle.shown_values.proofs.Pushing.{three}
use Rattle.shown_values.proofs.moments.push_going.Goals as goal

pub returns : goal.returns
returns c = three c.push_step_number.result c.args.out.now.items _ _ _ _ c.in_ok-push_index.ensures c.in_ok-push_manner.ensures c.push_step_number.ensures
