use Rattle.class_texts.specs.Expected.{expected_lines}
use Rattle.class_texts.proofs.FlatLemmas.{flat-next}
use Rattle.class_texts.proofs.expected.expectations_lines.Goals as goal

-- one more is put
pub loop-expected-preserved : goal.loop-expected-preserved
loop-expected-preserved c =
    let l = c.loop-expected in
    flat-next (expected_lines c.args.steps.now c.args.is_sample c.args.orders c.args.rows.now) c.args.expectations.now l.expected-index c.expected-item.result l.lines
    c.put_expected.new.lines c.loop-expected-test.true c.expected-item.is l.invariant c.in_ok-put_expected.ensures
