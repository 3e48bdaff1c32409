use Rattle.class_texts.proofs.MissLemmas.{misses-told}
use Rattle.class_texts.proofs.laws.misses_are_told.Goals as goal

pub returns : goal.returns
returns c = misses-told
