use Rattle.rank_facts.proofs.Lines.{spec-letters}
use Rattle.rank_facts.proofs.laws.letters_are_steps.Goals as goal

pub returns : goal.returns
returns c = spec-letters
