use Rattle.std.specs.Prelude.{◌≡◌, ℕ, List, ◌++◌, Result, Ok, Err, OnOk, codes, zip}
use Rattle.std.proofs.Common.{◌∙◌, ap, append_assoc, subst}
use Rattle.shown_values.specs.Strings.{array_json, string_json}
use Rattle.shown_values.specs.Page.{step_json}
use Rattle.class_texts.specs.Pages.{Page}
use Rattle.class_values.specs.Page.{numbers_json}
use Rattle.class_values.proofs.classes.push_numbers.Goals as goal

-- two parts, the last one if there is room
two : {A E : Type 0} (r : Result A E) (old a b new : List ℕ) {first : List ℕ} → first ≡ old ++ a → OnOk r (new ≡ first ++ b) → OnOk r (new ≡ old ++ (a ++ b))
two (Ok _) old a b new e f = f ∙ ap (λ out. out ++ b) e ∙ append_assoc old a b
two (Err _) old a b new e f = f

-- both parts are pushed
pub returns : goal.returns
returns c =
    let page = c.page.inside in
    let sessions = c.args.step_sessions.now in
    let texts = c.args.statements.now in
    subst (λ (p : Page). OnOk c.push_steps.result (c.push_steps.new.out.items ≡ c.args.out.now.items ++ numbers_json p sessions texts)) c.page.view_is
    (two c.push_steps.result c.args.out.now.items (codes ",\"sessions\":" ++ array_json string_json page.sessions.now)
    (codes ",\"steps\":" ++ array_json step_json (zip page.steps.now (zip sessions texts))) _ c.in_ok-push_names.ensures c.push_steps.ensures)
