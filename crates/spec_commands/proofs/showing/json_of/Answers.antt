use Rattle.std.proofs.Common.{◌∙◌}
use Rattle.shown_values.specs.Page.{Sheet, page_json}
use Rattle.spec_commands.proofs.showing.json_of.Goals as goal

pub returns : goal.returns
returns c =
    c.in_ok-text.ensures ∙ (λ k. let s : Sheet = record {
      name = c.args.path.now;
      rank = c.args.rank;
      orders = c.ranks.ensures k;
      level = c.args.levels.now.asked;
      other_lines = c.args.levels.now.other_lines.items;
      session_names = c.session_names.ensures.are k;
      step_names = c.step_names.ensures.are k;
      step_sessions = (c.deref.ensures.value ∙ c.in_ok-step_sessions.ensures) k;
      statements = c.args.statements.now;
      line = (c.as_slice.ensures.value ∙ c.requires) k;
      shown = c.args.shown.now;
    } in page_json s)
