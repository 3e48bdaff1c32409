use Rattle.std.proofs.Common.{◌≡◌, ◌∷◌, None, map, length}
use Rattle.spec_reader.specs.Lexing.{view, views}
use Rattle.spec_reader.specs.Reading.{reads, Start, Head}
use Rattle.spec_reader.specs.Views.{block_tree}
use Rattle.spec_reader.proofs.grammar.front_of.Given as goal

abbrev pub invariant-setups : goal.invariant-setups
invariant-setups l = reads Start (views l.tokens) ≡ reads (Head (map block_tree l.setups.items) None) (view l.next ∷ views l.rest)

abbrev pub decreases-setups : goal.decreases-setups
decreases-setups l = length l.rest
