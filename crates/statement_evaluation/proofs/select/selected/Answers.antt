use Rattle.std.proofs.Common.{◌≡◌, sym, ap, ◌∙◌, subst, rules}
use Rattle.std.specs.Result.{IfOk}
use Rattle.statement_evaluation.specs.Effect.{Effect, shown}
use Rattle.statement_evaluation.specs.Borrowed.{effect_at}
use Rattle.statement_evaluation.specs.Matched.{selected}
use Rattle.statement_evaluation.proofs.SortLemmas.{sorted-none}
use Rattle.statement_evaluation.proofs.select.selected.Goals as goal

-- without an order entries stay as they are
pub returns-then-is_empty : goal.returns-then-is_empty
returns-then-is_empty c =
    let order = c.args.order.now in
    let output = c.args.output.now in
    let is : shown output c.as_slice.result.now ≡ selected order output c.args.found =
    ap (shown output) (c.as_slice.ensures ∙ sorted-none order c.in-Some.found (search rules)) ∙ ap (selected order output) (sym c.in-Some.is) in
    subst (λ (e : Effect). IfOk c.show.result (λ given. effect_at given ≡ e)) is c.show.ensures
