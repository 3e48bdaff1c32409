use Rattle.std.proofs.Common.{◌≡◌, ◌∷◌, [], length}
use Rattle.spec_reader.specs.Lexing.{view, views}
use Rattle.spec_reader.specs.Tree.{FrontTree}
use Rattle.spec_reader.specs.Reading.{reads, SessionBegun, Sessioned}
use Rattle.spec_reader.proofs.sessions.sessions_of.Given as goal

abbrev pub invariant-sessions : goal.invariant-sessions
invariant-sessions l = (f : FrontTree) → reads (SessionBegun f []) (views l.tokens) ≡ reads (Sessioned f l.sessions) (view l.next ∷ views l.rest)

abbrev pub decreases-sessions : goal.decreases-sessions
decreases-sessions l = length l.rest
