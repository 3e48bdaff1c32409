use Rattle.std.proofs.Common.{sym, arith}
use Rattle.std.proofs.lemmas.List.{length-take-le, take_all}
use Rattle.class_commands.proofs.opened.first_of.Goals as goal

pub returns-then-rows-le-MAX_SHOWN : goal.returns-then-rows-le-MAX_SHOWN
returns-then-rows-le-MAX_SHOWN c = sym (take_all 1000 c.args.rows.now c.if-rows-le-MAX_SHOWN.true)

pub slice_bounds-result-end : goal.slice_bounds-result-end
slice_bounds-result-end c =
    let more = c.if-rows-le-MAX_SHOWN.false in
    sym (length-take-le 1000 c.args.rows.now (omega (arith, more)))
