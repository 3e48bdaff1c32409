use Rattle.shown_values.proofs.Markup.{page-free}
use Rattle.shown_values.proofs.laws.pages_are_free.Goals as goal

pub returns : goal.returns
returns c = page-free
