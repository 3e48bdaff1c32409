use Rattle.class_looks.proofs.ReadingLemmas.{looks-spelled}
use Rattle.class_looks.proofs.laws.looks_are_spelled.Goals as goal

pub returns : goal.returns
returns c = looks-spelled
