use Rattle.std.specs.Prelude.{◌≡◌, ◌++◌, codes}
use Rattle.std.proofs.Common.{subst}
use Rattle.shown_values.proofs.Pushing.{three}
use Rattle.class_texts.specs.Pages.{Page}
use Rattle.class_values.specs.Class.{classes_from}
use Rattle.class_values.proofs.rows.push_all.Goals as goal

-- all parts are pushed
pub returns : goal.returns
returns c =
    let page = c.args.page.now in
    three c.push-2.result c.args.out.now.items (codes ",\"classes\":[") (classes_from page 0 page.rows) (codes "]") _ c.in_ok-push.ensures
    (subst (λ (p : Page). c.push_rows.new.out.items ≡ c.push.new.out.items ++ classes_from page 0 p.rows) c.page.view_is c.in_ok-push_rows.ensures)
    c.push-2.ensures
