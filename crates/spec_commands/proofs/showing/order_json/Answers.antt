use Rattle.std.proofs.Common.{sym, ◌∙◌}
use Rattle.line_moments.specs.Left.{shown}
use Rattle.spec_commands.proofs.showing.order_json.Goals as goal

pub returns-in-Ok-json_of-clause-shown : goal.returns-in-Ok-json_of-clause-shown
returns-in-Ok-json_of-clause-shown c =
    let run = c.args.spec.now.run in
    let declares = c.requires.tables in
    record {
      rank_is = c.requires.rank;
      statements = c.args.statements.now;
      lines = c.requires.statements;
      levels = c.args.levels.now;
      are_levels = c.requires.levels;
      shown = c.in-Ok.shown;
      shows = record {
        is = declares.is;
        tables = c.args.tables.now;
        blocks = declares.blocks;
        declares = declares.declares;
        shows = (λ k. shown c.args.tables.now run ((sym c.in-Some.ensures.line ∙ sym c.as_slice.ensures.value) k)) ∙ c.in-Ok.ensures.shown;
      };
      text_is = c.in-Ok-json_of.ensures;
    }
