use Rattle.std.specs.Prelude.{◌++◌, codes, decimal}
use Rattle.std.proofs.Common.{◌∙◌, ap}
use Rattle.shown_values.specs.Levels.{level_word}
use Rattle.shown_values.specs.Strings.{array_json}
use Rattle.shown_values.proofs.Pushing.{three}
use Rattle.shown_values.proofs.levels.push_asked.Goals as goal

-- all parts are pushed
pub returns : goal.returns
returns c =
    let old = c.args.out.now.items in
    three c.push.result old (codes ",\"levels\":{\"default\":\"" ++ level_word c.args.level) (codes "\",\"other_lines\":" ++ array_json decimal c.args.lines.now) (codes "}") _
    (c.in_ok-push_word.ensures ∙ ap (λ word. old ++ (codes ",\"levels\":{\"default\":\"" ++ word)) c.level_word.ensures) c.in_ok-push_line_numbers.ensures c.push.ensures
