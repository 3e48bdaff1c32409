use Rattle.std.proofs.Common.{sym, ◌∙◌}
use Rattle.line_moments.specs.Left.{shown}
use Rattle.spec_commands.proofs.showing.find_shown.Goals as goal

pub returns-in-Ok-show_line-clause-found : goal.returns-in-Ok-show_line-clause-found
returns-in-Ok-show_line-clause-found c = λ rank line.
    let run = c.args.spec.now.run in
    let declares = c.in-Ok.ensures in
    record {
      lines = c.in-Ok-statement_texts.ensures.lines;
      are_levels = c.in-Ok-levels_of.ensures;
      shows = record {
        is = declares.is;
        tables = c.in-Ok.tables.items;
        blocks = declares.blocks;
        declares = declares.declares;
        shows = (λ k. shown (sym c.deref.ensures.value k) run ((sym line ∙ sym c.as_slice.ensures.value) k)) ∙ c.in-Ok-show_line.ensures.shown;
      };
    }
