use Rattle.known_worlds.proofs.FrontLemmas.{AlikeSoFar}
use Rattle.known_worlds.proofs.front.shared_front.Given as goal

abbrev pub invariant-loop-place : goal.invariant-loop-place
invariant-loop-place l = AlikeSoFar l.old l.new l.place
