use Rattle.std.proofs.Common.{arith}
use Rattle.shown_texts.proofs.NameLemmas.{shortened-differ}
use Rattle.shown_texts.proofs.laws.shortened_names_differ.Goals as goal

pub returns : goal.returns
returns c = λ most names few i j lt there same. let no = shortened-differ most names few i j lt there same in absurd (omega (arith, no))
