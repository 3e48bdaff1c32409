use Rattle.book_format.proofs.EndLemmas.{apart-told, apart-tells}
use Rattle.book_format.proofs.reading.runs.is_past.Goals as goal

pub returns-then-stands_after : goal.returns-then-stands_after
returns-then-stands_after c = (
  λ h. record {
    after = c.stands_after.ensures.0 c.if-stands_after.true;
    apart = apart-told c.args.outcomes c.args.ends.now c.args.before.now c.args.run.now c.requires.ends c.requires.tag (c.is_apart.ensures.0 h);
  },
  λ p. c.is_apart.ensures.1 (apart-tells c.args.outcomes c.args.ends.now c.args.before.now c.args.run.now c.requires.ends c.requires.tag p.apart),
)
