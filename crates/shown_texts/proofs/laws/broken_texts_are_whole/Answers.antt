use Rattle.shown_texts.proofs.BrokenLemmas.{broken-whole}
use Rattle.shown_texts.proofs.laws.broken_texts_are_whole.Goals as goal

pub returns : goal.returns
returns c = broken-whole
