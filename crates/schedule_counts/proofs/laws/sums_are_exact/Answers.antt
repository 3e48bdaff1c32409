use Rattle.schedule_counts.proofs.Sums.{classes-of}
use Rattle.schedule_counts.proofs.laws.sums_are_exact.Goals as goal

pub returns : goal.returns
returns c = λ kind tables run start shown states sessions few is. classes-of kind run start sessions tables shown states is few
