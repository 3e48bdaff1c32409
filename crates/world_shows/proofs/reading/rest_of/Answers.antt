use Rattle.std.proofs.Common.{sym, ◌∙◌}
use Rattle.std.proofs.Common.{ap}
use Rattle.world_shows.specs.Parts.{rest_by}
use Rattle.world_shows.proofs.ReadLemmas.{rest-waiting, rest-free}
use Rattle.world_shows.proofs.reading.rest_of.Goals as goal

pub returns-then-waits : goal.returns-then-waits
returns-then-waits c = sym (rest-waiting c.args.world.now.world c.args.session (sym c.waits.ensures ∙ c.if-waits.true))

pub returns : goal.returns
returns c =
    c.rest_outside.ensures ∙ ap rest_by c.status.ensures
    ∙ sym (rest-free c.args.world.now.world c.args.session (sym c.waits.ensures ∙ c.if-waits.false))
