use Rattle.std.proofs.Common.{◌==◌, ◌∙◌, ap, inr, sym}
use Rattle.std.specs.List.{list_all}
use Rattle.marked_rows.specs.declared.cell.Written.{Written}
use Rattle.marked_rows.proofs.ending.forget.Goals as goal

pub returns-then-are_of : goal.returns-then-are_of
returns-then-are_of c =
    let all = ap (list_all (λ (w : Written). w.session == c.args.session)) (sym c.as_slice.ensures) ∙ sym c.are_of.ensures ∙ c.if-are_of.true in
    inr (all, c.truncate.ensures)
