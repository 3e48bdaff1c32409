use Rattle.std.proofs.Common.{sym, ap, ◌∙◌, ◌+◌, ◌==◌, slice_index_or, drop}
use Rattle.statement_evaluation.proofs.ListLemmas.{onto}
use Rattle.class_looks.specs.Values.{undoubled}
use Rattle.class_looks.proofs.ValueLemmas.{byte-at}
use Rattle.class_looks.proofs.values.undoubled.Goals as goal

pub loop-byte-preserved : goal.loop-byte-preserved
loop-byte-preserved c =
    let bytes = c.args.bytes.now in
    let i = c.loop-byte.byte-index in
    ap (λ text. onto text (undoubled (slice_index_or bytes i 0 == 39) (drop (i + 1) bytes))) c.in_ok-push.ensures.items
    ∙ byte-at bytes i 0 c.loop-byte-test.true c.loop-byte.text.items
    ∙ ap (λ q. onto c.loop-byte.text.items (undoubled q (drop i bytes))) (sym c.if-behind_quote.false)
    ∙ c.loop-byte.invariant
