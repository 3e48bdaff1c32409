use Rattle.class_looks.proofs.SeeingLemmas.{sees-lines}
use Rattle.class_looks.proofs.laws.looks_see_lines.Goals as goal

pub returns : goal.returns
returns c = sees-lines
