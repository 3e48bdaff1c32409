use Rattle.std.proofs.Common.{◌≡◌, ◌∷◌, map, length}
use Rattle.spec_reader.specs.Lexing.{view, views}
use Rattle.spec_reader.specs.Tree.{FrontTree}
use Rattle.spec_reader.specs.Reading.{reads, reads_lined, Sessioned}
use Rattle.spec_reader.specs.Views.{line_tree}
use Rattle.spec_reader.proofs.lines.lines_of.Given as goal

abbrev pub invariant-lines : goal.invariant-lines
invariant-lines l = (f : FrontTree) → reads (Sessioned f l.sessions) (view l.fn.token ∷ views l.fn.tokens)
    ≡ reads_lined f l.sessions (map line_tree l.lines.items) (view l.next) (views l.rest)

abbrev pub decreases-lines : goal.decreases-lines
decreases-lines l = length l.rest
