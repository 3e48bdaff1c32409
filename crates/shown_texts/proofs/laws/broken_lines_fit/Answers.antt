use Rattle.shown_texts.proofs.FittingLemmas.{broken-fit}
use Rattle.shown_texts.proofs.laws.broken_lines_fit.Goals as goal

pub returns : goal.returns
returns c = broken-fit
