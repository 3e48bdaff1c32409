use Rattle.std.proofs.Common.{[], ◌∷◌}
use Rattle.book_stretches.proofs.Going.{say-later}
use Rattle.book_stretches.proofs.telling.Telling.tell_run.Goals as goal

pub tell_block-requires-clause-say : goal.tell_block-requires-clause-say
tell_block-requires-clause-say c =
    let l = c.loop-run.invariant in
    say-later c.args.self.now c.loop-run.self (c.args.run ∷ []) c.args.to c.requires.say l.same l.on l.few
