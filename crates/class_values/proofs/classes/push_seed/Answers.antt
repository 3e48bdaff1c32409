use Rattle.std.specs.Prelude.{◌++◌, codes, decimal}
use Rattle.std.proofs.Common.{◌∙◌, ap}
use Rattle.shown_values.proofs.Pushing.{three}
use Rattle.class_texts.specs.Pages.{seen_once}
use Rattle.class_values.proofs.classes.push_seed.Goals as goal

-- all parts are pushed
pub returns : goal.returns
returns c =
    three c.push.result c.args.out.now.items (codes ",\"sample\":{\"seed\":" ++ decimal c.args.seed) (codes ",\"seen_once\":" ++ decimal (seen_once c.args.rows.now)) (codes "}") _
    c.in_ok-push_count.ensures
    (c.in_ok-push_count-2.ensures ∙ ap (λ n. c.push_count.new.out.items ++ (codes ",\"seen_once\":" ++ decimal n)) c.seen_once.ensures) c.push.ensures
