use Rattle.book_stretches.proofs.Giving.{none-said}
use Rattle.book_stretches.proofs.telling.Telling.tell_stretch.Goals as goal

pub push_none-requires-clause-nothing : goal.push_none-requires-clause-nothing
push_none-requires-clause-nothing c = none-said c.args.self.now c.args.active.now c.args.until c.requires.say c.requires.some c.in-empty.len_below
