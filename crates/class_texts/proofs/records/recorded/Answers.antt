use Rattle.std.proofs.Common.{sym, arith}
use Rattle.std.proofs.lemmas.List.{length-take-le, take_all}
use Rattle.class_texts.proofs.records.recorded.Goals as goal

pub returns-then-rows-le-MAX_RECORDED : goal.returns-then-rows-le-MAX_RECORDED
returns-then-rows-le-MAX_RECORDED c = sym (take_all 200 c.args.rows.now c.if-rows-le-MAX_RECORDED.true)

pub slice_bounds-result-end : goal.slice_bounds-result-end
slice_bounds-result-end c =
    let more = c.if-rows-le-MAX_RECORDED.false in
    sym (length-take-le 200 c.args.rows.now (omega (arith, more)))
