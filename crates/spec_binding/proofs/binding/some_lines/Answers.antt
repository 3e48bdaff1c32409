use Rattle.std.proofs.Common.{arith, map}
use Rattle.std.proofs.lemmas.List.{length-map}
use Rattle.spec_reader.specs.Views.{line_tree}
use Rattle.spec_binding.proofs.FileLemmas.{lines-some}
use Rattle.spec_binding.proofs.binding.some_lines.Goals as goal

pub returns-in-Some-clause-some : goal.returns-in-Some-clause-some
returns-in-Some-clause-some c =
    let lines = rw c.in-Some.is at c.in_ok-lines.ensures in
    lines-some (λ line. line.items) c.in-Some.lines.items c.args.names.now (map line_tree c.args.texts.now) lines
    (omega (arith, length-map c.args.texts.now line_tree))
