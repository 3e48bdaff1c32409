use Rattle.std.proofs.Common.{refl}
use Rattle.spec_commands.proofs.ShowLemmas.{not-placed, not-read, show-runs}
use Rattle.spec_commands.proofs.showing.show.Goals as goal

pub returns-clause-shown : goal.returns-clause-shown
returns-clause-shown g c =
    show-runs g.W.Write.contents c.args.out.now c.write_shown.new.out c.args.bytes.now c.args.path.now c.args.wanted c.args.form c.args.level c.in-Ok.spec
    c.in-Ok-wanted_rank.rank c.in-Ok-find_shown.found.statements.items c.in-Ok-find_shown.found.levels c.in-Ok-find_shown.found.shown c.in-Ok.ensures.file c.in-Ok.ensures.text
    c.in-Ok-wanted_rank.ensures.rank (c.in-Some.ensures.some.0 refl)
    (c.in-Ok-find_shown.ensures.found c.in-Ok-wanted_rank.rank c.in-Some.ensures.line) c.write_shown.result c.write_shown.ensures

pub returns-in-Err-clause-shown : goal.returns-in-Err-clause-shown
returns-in-Err-clause-shown g c =
    not-read g.W.Write.contents c.args.out.now c.args.bytes.now c.args.path.now c.args.wanted c.args.form c.args.level c.not_read.result
    (c.not_read.ensures c.args.bytes.now c.args.level c.in-Err.ensures.refused)

pub returns-in-Err-clause-placed : goal.returns-in-Err-clause-placed
returns-in-Err-clause-placed g c =
    not-placed g.W.Write.contents c.args.out.now c.args.bytes.now c.args.path.now c.args.wanted c.args.form c.args.level c.not_read.result
    (c.not_read.ensures c.args.bytes.now c.args.level c.in-Err.ensures.refused)
