use Rattle.std.proofs.Common.{◌∙◌}
use Rattle.marked_quiet.proofs.AskedLemmas.{elsewhere-same}
use Rattle.marked_quiet.proofs.waiting.none_asked_by.Goals as goal

pub returns : goal.returns
returns c =
    let world = c.args.world.now in
    c.has_other_numbers.ensures
    ∙ elsewhere-same world.file.run world.numbers c.numbers_are_apart.ensures c.known.ensures.numbering c.args.number c.requires.number c.args.plan.now
    c.requires.known
