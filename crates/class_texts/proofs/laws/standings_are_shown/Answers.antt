use Rattle.class_texts.proofs.ShownLemmas.{rest-shown}
use Rattle.class_texts.proofs.laws.standings_are_shown.Goals as goal

pub returns : goal.returns
returns c = rest-shown
