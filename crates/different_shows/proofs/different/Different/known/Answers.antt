use Rattle.std.proofs.Common.{subst}
use Rattle.different_shows.specs.Different.{AreDifferent}
use Rattle.different_shows.proofs.Numbered.{one-number}
use Rattle.different_shows.proofs.different.Different.known.Goals as goal

pub returns : goal.returns
returns c = subst AreDifferent c.self.view_is (one-number c.self.inside.shows.items c.self.inside.numbers.entries c.self.invariant)
