use Rattle.std.proofs.Common.{◌≡◌, sym, ap, ◌∙◌, rules}
use Rattle.std.proofs.lemmas.Fn.{always_returns_same}
use Rattle.statement_evaluation.specs.Effect.{sorted_by}
use Rattle.statement_evaluation.proofs.SortLemmas.{sorted-is, is-order, stands_before}
use Rattle.statement_evaluation.proofs.entry.Entries.sorted.Goals as goal

pub returns : goal.returns
returns c =
    let keys = c.args.keys.now in
    let before = c.into_parts-one.result.1.items in
    let all : c.self.inside.items ≡ before = search rules in
    c.of_items.ensures
    ∙ sorted-is keys before c.sort_by.new.self.items
    (c.in_ok-sort_by.ensures.sorted (stands_before keys) (is-order keys) (always_returns_same _ _ _ (λ a r f' called. (search rules, search rules))))
    (c.in_ok-sort_by.ensures.stable (stands_before keys) (is-order keys) (always_returns_same _ _ _ (λ a r f' called. (search rules, search rules))))
    ∙ ap (sorted_by keys) (sym all ∙ c.self.view_is)
