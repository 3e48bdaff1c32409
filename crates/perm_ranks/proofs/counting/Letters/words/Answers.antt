use Rattle.std.proofs.Common.{arith}
use Rattle.perm_ranks.proofs.SomeLemmas.{some-words}
use Rattle.perm_ranks.proofs.counting.Letters.words.Goals as goal

pub returns-clause-some : goal.returns-clause-some
returns-clause-some c = omega (arith, c.self.invariant.words_is, some-words c.self.inside.counts.items)
