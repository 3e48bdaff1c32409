use Rattle.std.proofs.Common.{◌∙◌, sym, arith, drop}
use Rattle.spec_reader.proofs.Quotes.{quoted_more, quoted_stops, not_not, not_stops}
use Rattle.spec_reader.proofs.quoted.quoted_len.Goals as goal

pub loop-len-preserved : goal.loop-len-preserved
loop-len-preserved c = record {
  within = omega arith;
  so_far = rw c.begins_pair-second.ensures
      (sym (quoted_more c.loop-len.second c.args.bytes.now c.loop-len.len (omega arith) (not_not _ (sym c.goes_on_at.ensures ∙ c.if-goes_on_at.true)))
      ∙ c.loop-len.invariant.so_far);
}

pub returns-else-goes_on_at-clause-value : goal.returns-else-goes_on_at-clause-value
returns-else-goes_on_at-clause-value c =
    let at_end = quoted_stops c.loop-len.second (drop c.loop-len.len c.args.bytes.now) (not_stops _ (sym c.goes_on_at.ensures ∙ c.if-goes_on_at.false)) in
    omega (arith, at_end, c.loop-len.invariant.so_far)
