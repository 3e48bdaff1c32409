use Rattle.shown_values.proofs.Separators.{string-whole}
use Rattle.shown_values.proofs.laws.strings_are_whole.Goals as goal

pub returns : goal.returns
returns c = string-whole
