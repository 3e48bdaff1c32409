use Rattle.std.proofs.Common.{sym, ap, ◌∙◌, string_bytes}
use Rattle.std.specs.List.{list_all}
use Rattle.std.proofs.lemmas.List.Folds.{list_all_at, list_all-map}
use Rattle.std.proofs.lemmas.List.{take_all}
use Rattle.command_line.specs.Lines.{is_plain}
use Rattle.command_line.proofs.plain.are_plain.Goals as goal

-- one is a flag
pub returns-then-not-is_plain : goal.returns-then-not-is_plain
returns-then-not-is_plain c =
    let flag = ap (λ w. is_plain (string_bytes w)) (sym c.word-item.is) ∙ ap is_plain (sym c.deref.ensures) ∙ sym c.is_plain.ensures ∙ c.if-not-is_plain.true
    in sym (list_all-map is_plain string_bytes c.args.words.now
    ∙ list_all_at (λ w. is_plain (string_bytes w)) c.args.words.now c.loop-word.word-index c.word-item.result c.loop-word-test.true flag)

-- none is
pub returns : goal.returns
returns c =
    sym (list_all-map is_plain string_bytes c.args.words.now
    ∙ ap (λ ws. list_all (λ w. is_plain (string_bytes w)) ws) (sym (take_all c.loop-word.word-index c.args.words.now c.loop-word-test.false))
    ∙ c.loop-word.invariant)
