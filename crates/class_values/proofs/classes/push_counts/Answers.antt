use Rattle.std.specs.Prelude.{◌≡◌, ◌++◌, OnOk}
use Rattle.std.proofs.Common.{subst}
use Rattle.shown_values.proofs.Pushing.{three}
use Rattle.class_texts.specs.Pages.{Page}
use Rattle.class_values.specs.Page.{missing_by, orders_json, sample_json}
use Rattle.class_values.proofs.classes.push_counts.Goals as goal

-- all parts are pushed
pub returns : goal.returns
returns c =
    let page = c.args.page.now in
    three c.push_missing_by.result c.args.out.now.items (orders_json page) (sample_json page.rows page.sample) (missing_by page.by page.missing) _
    c.in_ok-push_orders.ensures
    (subst (λ (p : Page). c.push_sample.new.out.items ≡ c.push_orders.new.out.items ++ sample_json p.rows p.sample) c.page.view_is c.in_ok-push_sample.ensures)
    (subst (λ (p : Page). OnOk c.push_missing_by.result (c.push_missing_by.new.out.items ≡ c.push_sample.new.out.items ++ missing_by p.by p.missing)) c.page.view_is
    c.push_missing_by.ensures)
