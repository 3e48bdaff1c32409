use Rattle.book_stretches.proofs.Going.{refused-same, say-later}
use Rattle.book_stretches.proofs.telling.Telling.tell_each.Goals as goal

pub tell_next-requires-clause-say : goal.tell_next-requires-clause-say
tell_next-requires-clause-say c =
    let l = c.loop-self.invariant in
    say-later c.args.self.now c.loop-self.self c.args.active.now c.args.until c.requires.say l.same l.on l.few

pub returns-in-Err-clause-stop : goal.returns-in-Err-clause-stop
returns-in-Err-clause-stop c =
    let l = c.loop-self.invariant in
    refused-same c.args.self.now c.loop-self.self c.in-Err.error l.same c.in-Err.ensures.stop
