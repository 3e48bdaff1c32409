use Rattle.std.proofs.Common.{◌≡◌, drop, map}
use Rattle.spec_reader.specs.Views.{line_tree}
use Rattle.bound_specs.specs.Lines.{all_some, numbered_line}
use Rattle.spec_binding.proofs.ShapeLemmas.{front_some}
use Rattle.spec_binding.proofs.shapes.lines.Given as goal

abbrev pub invariant-loop-text : goal.invariant-loop-text
invariant-loop-text l =
    front_some (map (λ line. line.items) l.lines.items) (all_some (λ t. numbered_line l.names (line_tree t)) (drop l.text-index l.texts))
    ≡ all_some (numbered_line l.names) (map line_tree l.texts)
