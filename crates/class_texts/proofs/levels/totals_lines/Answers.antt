use Rattle.std.proofs.Common.{◌++◌, ◌∙◌, ap, map}
use Rattle.class_texts.specs.Levels.{heads, letter_line}
use Rattle.class_texts.proofs.levels.totals_lines.Goals as goal

pub returns : goal.returns
returns c =
    let a = c.args.serializable.now in
    let b = c.args.committed.now in
    let first = c.in_ok-first.first in
    let second = c.in_ok-second.second in
    c.in_ok-put_letters.ensures
    ∙ ap (λ lines. lines ++ map (letter_line first second a b) c.letters_of-letters.result.now) c.in_ok-lines.ensures
    ∙ (λ i. let v = c.in_ok-first.ensures i in
    let w = c.in_ok-second.ensures i in
    heads v w ++ map (letter_line v w a b) (c.letters_of-letters.ensures i))
