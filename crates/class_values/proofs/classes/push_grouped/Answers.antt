use Rattle.std.specs.Prelude.{◌≡◌, ◌++◌, codes}
use Rattle.std.proofs.Common.{◌∙◌, ap, subst}
use Rattle.shown_values.proofs.Pushing.{three}
use Rattle.class_texts.specs.Pages.{Page}
use Rattle.class_values.specs.Totals.{totals_json}
use Rattle.class_values.specs.Page.{asked_json, by_json}
use Rattle.class_values.proofs.classes.push_grouped.Goals as goal

-- all parts are pushed
pub returns : goal.returns
returns c =
    let page = c.args.page.now in
    let old = c.args.out.now.items in
    let named = c.in_ok-push_word.ensures ∙ ap (λ word. old ++ (codes ",\"by\":" ++ word)) c.by_word.ensures in
    three c.push_asked.result old (codes ",\"by\":" ++ by_json page.by) (codes ",\"totals\":" ++ totals_json page.by page.all_orders page.totals) (asked_json page) _
    (subst (λ (p : Page). c.push_word.new.out.items ≡ old ++ (codes ",\"by\":" ++ by_json p.by)) c.page.view_is named)
    (subst (λ (p : Page). c.push_totals.new.out.items ≡ c.push_word.new.out.items ++ (codes ",\"totals\":" ++ totals_json p.by p.all_orders p.totals))
    c.page.view_is c.in_ok-push_totals.ensures) c.push_asked.ensures
