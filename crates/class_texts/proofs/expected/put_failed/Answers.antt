use Rattle.class_texts.specs.Expected.{miss_lines, missed_lines}
use Rattle.class_texts.proofs.FlatLemmas.{two}
use Rattle.class_texts.proofs.expected.put_failed.Goals as goal

-- both parts are put
pub returns : goal.returns
returns c =
    two c.put_miss.result c.args.lines.now (missed_lines c.args.orders c.args.rows.now c.args.expected.now)
    (miss_lines c.args.steps.now c.args.row.now c.args.events.now) _ _ c.in_ok-put_missed.ensures c.put_miss.ensures
