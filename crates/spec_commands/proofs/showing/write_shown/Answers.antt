use Rattle.std.proofs.Common.{sym, subst}
use Rattle.spec_commands.specs.Showing.{Writes, text_by}
use Rattle.spec_commands.proofs.showing.write_shown.Goals as goal

pub returns-in-Json : goal.returns-in-Json
returns-in-Json g c =
    let statements = c.args.found.now.statements.items in
    subst (λ f. Writes g.W.Write.contents c.args.out.now c.write_json.new.out
    (text_by f c.args.path.now c.args.spec.now c.args.rank statements c.args.found.now.levels c.args.found.now.shown) c.write_json.result) (sym c.in-Json.is) c.write_json.ensures
