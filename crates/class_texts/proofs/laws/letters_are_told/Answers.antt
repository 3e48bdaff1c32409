use Rattle.class_texts.proofs.LetterLemmas.{letters-tell}
use Rattle.class_texts.proofs.laws.letters_are_told.Goals as goal

pub returns : goal.returns
returns c = letters-tell
