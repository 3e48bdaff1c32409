use Rattle.std.proofs.Common.{ap, sym, ◌∙◌}
use Rattle.std.specs.List.{list_any}
use Rattle.spec_texts.specs.Statements.{has_not_null}
use Rattle.spec_texts.proofs.PartLemmas.{any-true, any-false}
use Rattle.spec_texts.proofs.statements.has_not_null.Goals as goal

pub returns-then-is_not_null_part : goal.returns-then-is_not_null_part
returns-then-is_not_null_part c =
    let parts = c.args.table.now.parts in
    c.if-is_not_null_part.true ∙ sym (any-true has_not_null parts.first parts.more (sym c.is_not_null_part.ensures ∙ c.if-is_not_null_part.true))

pub returns-else-is_not_null_part : goal.returns-else-is_not_null_part
returns-else-is_not_null_part c =
    let parts = c.args.table.now.parts in
    c.have_not_null.ensures ∙ ap (list_any has_not_null) c.as_slice.ensures
    ∙ sym (any-false has_not_null parts.first parts.more (sym c.is_not_null_part.ensures ∙ c.if-is_not_null_part.false))
