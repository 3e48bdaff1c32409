use Rattle.class_values.proofs.Markup.{json-free}
use Rattle.class_values.proofs.laws.classes_are_free.Goals as goal

pub returns : goal.returns
returns c = json-free
