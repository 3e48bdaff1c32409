use Rattle.std.proofs.Common.{◌∙◌}
use Rattle.sql_grammar.specs.Views.{view_atom}
use Rattle.sql_reader.proofs.Joined.{part_maps}
use Rattle.sql_reader.proofs.conditions.all_of.Goals as goal

pub returns : goal.returns
returns c = c.part.ensures ∙ part_maps view_atom (view_atom c.args.first) c.args.more.items
