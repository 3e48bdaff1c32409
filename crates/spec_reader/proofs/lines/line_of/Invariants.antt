use Rattle.std.proofs.Common.{◌≡◌, ◌<◌, ◌∷◌, List, map, length}
use Rattle.spec_reader.specs.Lexing.{view, views}
use Rattle.spec_reader.specs.Tree.{FrontTree, LineTree}
use Rattle.spec_reader.specs.Reading.{reads, LineBegun, ItemDone}
use Rattle.spec_reader.specs.Views.{item_tree}
use Rattle.spec_reader.proofs.lines.line_of.Given as goal

abbrev pub invariant-items : goal.invariant-items
invariant-items l = record {
  shorter : length l.rest < length l.tokens;
  so_far : (f : FrontTree) (ls : List LineTree) → reads (LineBegun f l.sessions ls) (views l.tokens)
      ≡ reads (ItemDone f l.sessions ls (map item_tree l.items.items)) (view l.next ∷ views l.rest);
}

abbrev pub decreases-items : goal.decreases-items
decreases-items l = length l.rest
