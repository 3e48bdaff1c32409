use Rattle.std.proofs.Common.{◌∙◌, arith}
use Rattle.json.specs.Value.{value_view}
use Rattle.book_format.proofs.TokenLemmas.{tree-copied}
use Rattle.book_format.proofs.reading.tokens.copy_of.Goals as goal

pub returns-in-Ok : goal.returns-in-Ok
returns-in-Ok c =
    let deep = c.requires.depth in
    tree-copied (value_view c.args.tree.now) c.as_slice.result.now c.value_of.result c.requires.numbers (omega (arith, deep))
    (c.as_slice.ensures.value ∙ c.in-Ok.ensures.text) c.value_of.ensures
