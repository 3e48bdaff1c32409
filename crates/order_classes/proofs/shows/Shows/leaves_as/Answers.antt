use Rattle.std.proofs.Common.{sym, ◌∙◌}
use Rattle.order_classes.proofs.ShowsOrder.{from-equal, tables_same}
use Rattle.order_classes.proofs.shows.Shows.leaves_as.Goals as goal

pub returns : goal.returns
returns c same =
    let tied = from-equal c.tables_order.result (sym c.is_eq.ensures ∙ same) in
    sym c.as_slice.ensures ∙ tables_same _ _ (sym c.tables_order.ensures ∙ tied) ∙ c.as_slice-2.ensures
