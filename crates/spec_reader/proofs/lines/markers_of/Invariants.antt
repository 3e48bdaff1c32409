use Rattle.std.proofs.Common.{◌≡◌, ◌<◌, [], ℕ, List, map, length}
use Rattle.spec_reader.specs.Lexing.{view, views}
use Rattle.spec_reader.specs.Tree.{FrontTree, LineTree, ItemTree}
use Rattle.spec_reader.specs.Reading.{reads, reads_listed, MarkerBegun}
use Rattle.spec_reader.specs.Views.{marker_tree}
use Rattle.spec_reader.proofs.lines.markers_of.Given as goal

abbrev pub invariant-markers : goal.invariant-markers
invariant-markers l = record {
  shorter : length l.rest < length l.tokens;
  so_far : (f : FrontTree) (ls : List LineTree) (is : List ItemTree) (n : List ℕ) → reads (MarkerBegun f l.sessions ls is n []) (views l.tokens)
      ≡ reads_listed f l.sessions ls is n (map marker_tree l.markers.items) (view l.next) (views l.rest);
}

abbrev pub decreases-markers : goal.decreases-markers
decreases-markers l = length l.rest
