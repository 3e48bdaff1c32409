use Rattle.std.proofs.Common.{◌∙◌, subst}
use Rattle.shown_texts.specs.Pages.{Page, page_bytes}
use Rattle.transcripts.specs.Counted.{Wrote, Stopped}
use Rattle.spec_commands.proofs.showing.write_text.Goals as goal

pub returns-in-Ok-write_str : goal.returns-in-Ok-write_str
returns-in-Ok-write_str g c =
    let text = c.deref-2.ensures ∙ c.in-Ok.ensures ∙ (λ k. let p : Page = record {
      path = c.args.path.now;
      rank = c.args.rank;
      orders = c.ranks.ensures k;
      sessions = c.session_names.ensures.are k;
      steps = c.step_names.ensures.are k;
      statements = c.deref.ensures.value k;
      level = c.args.found.now.levels.asked;
      other_lines = c.args.found.now.levels.other_lines.items;
      shown = c.args.found.now.shown;
    } in page_bytes p) in
    subst (Wrote g.W.Write.contents c.args.out.now c.write_str.new.self) text c.in-Ok-write_str.ensures

pub returns : goal.returns
returns g c =
    let text = c.deref-2.ensures ∙ c.in-Ok.ensures ∙ (λ k. let p : Page = record {
      path = c.args.path.now;
      rank = c.args.rank;
      orders = c.ranks.ensures k;
      sessions = c.session_names.ensures.are k;
      steps = c.step_names.ensures.are k;
      statements = c.deref.ensures.value k;
      level = c.args.found.now.levels.asked;
      other_lines = c.args.found.now.levels.other_lines.items;
      shown = c.args.found.now.shown;
    } in page_bytes p) in
    subst (Stopped g.W.Write.contents c.args.out.now c.write_str.new.self) text c.in-Err.ensures
