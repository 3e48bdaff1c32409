use Rattle.std.proofs.Common.{◌∙◌}
use Rattle.sql_grammar.specs.Views.{view_part}
use Rattle.sql_reader.proofs.Joined.{condition_maps}
use Rattle.sql_reader.proofs.conditions.any_of.Goals as goal

pub returns : goal.returns
returns c = c.condition_from.ensures ∙ condition_maps view_part (view_part c.args.first) c.args.more.items
