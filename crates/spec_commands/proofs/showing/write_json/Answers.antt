use Rattle.std.proofs.Common.{◌∙◌, subst}
use Rattle.spec_commands.specs.Showing.{text_by}
use Rattle.spec_commands.specs.declared.showing.ShowForm.TheVariants.{Json}
use Rattle.transcripts.specs.Counted.{Wrote, Stopped}
use Rattle.spec_commands.proofs.showing.write_json.Goals as goal

pub returns-in-Ok-write_all : goal.returns-in-Ok-write_all
returns-in-Ok-write_all g c =
    let text =
    c.deref-2.ensures.value ∙ c.in-Ok.ensures
    ∙ (λ k. text_by Json c.args.path.now c.args.spec.now c.args.rank (c.deref.ensures.value k) c.args.found.now.levels c.args.found.now.shown) in
    subst (Wrote g.W.Write.contents c.args.out.now c.write_all.new.self) text c.in-Ok-write_all.ensures

pub returns : goal.returns
returns g c =
    let text =
    c.deref-2.ensures.value ∙ c.in-Ok.ensures
    ∙ (λ k. text_by Json c.args.path.now c.args.spec.now c.args.rank (c.deref.ensures.value k) c.args.found.now.levels c.args.found.now.shown) in
    subst (Stopped g.W.Write.contents c.args.out.now c.write_all.new.self) text c.in-Err.ensures
