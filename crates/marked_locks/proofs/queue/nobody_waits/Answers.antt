use Rattle.std.proofs.Common.{◌∙◌, sym}
use Rattle.marked_locks.proofs.SeenLemmas.{nobody-seen}
use Rattle.marked_locks.proofs.queue.nobody_waits.Goals as goal

pub returns : goal.returns
returns c =
    c.are_elsewhere.ensures
    ∙ sym (nobody-seen c.args.modes.now.resources c.args.waits.now c.args.number c.requires.known.rise c.requires.number c.requires.known.each)
