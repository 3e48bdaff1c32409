use Rattle.std.proofs.Common.{inl, arith}
use Rattle.class_rows.proofs.Lists.{at-inside}
use Rattle.class_rows.proofs.rows.put.Goals as goal

pub returns-then-number-len : goal.returns-then-number-len
returns-then-number-len c =
    let row = at-inside c.args.rows.now.items c.in_ok-number.field-0 (let lt = c.if-number-len.true in let long = c.len.ensures in omega (arith, lt, long)) in
    (c.in_ok-number.field-0, c.in_ok-number.ensures, inl (row.0, row.1, c.join.ensures row.0 row.1))
