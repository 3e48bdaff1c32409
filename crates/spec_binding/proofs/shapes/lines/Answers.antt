use Rattle.spec_reader.specs.Views.{line_tree}
use Rattle.bound_specs.specs.Lines.{numbered_line}
use Rattle.spec_binding.proofs.ShapeLemmas.{some-starts}
use Rattle.spec_binding.proofs.shapes.lines.Goals as goal

pub loop-text-init : goal.loop-text-init
loop-text-init c = rw c.new-lines.ensures.items (some-starts line_tree (numbered_line c.args.names.now) c.args.texts.now)
