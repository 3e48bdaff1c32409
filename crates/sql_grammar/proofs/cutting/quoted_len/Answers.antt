use Rattle.std.proofs.Common.{sym, ◌∙◌}
use Rattle.sql_grammar.proofs.Pieces.{len-goes_on}
use Rattle.sql_grammar.proofs.cutting.quoted_len.Goals as goal

pub loop-n-preserved : goal.loop-n-preserved
loop-n-preserved c = len-goes_on c.loop-n.n c.loop-n.after c.may_double-after.result c.args.bytes.now _ c.loop-n-test.true (sym c.is_behind.ensures
    ∙ c.if-is_behind.false) c.may_double-after.ensures c.loop-n.invariant
