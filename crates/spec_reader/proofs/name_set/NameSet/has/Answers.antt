use Rattle.std.proofs.Common.{◌∙◌, ap}
use Rattle.spec_reader.specs.Names.{is_among}
use Rattle.spec_reader.proofs.NameSets.{has_text}
use Rattle.spec_reader.proofs.name_set.NameSet.has.Goals as goal

pub returns : goal.returns
returns c = c.contains.ensures ∙ has_text c.args.name.now c.self.inside.names.keys ∙ ap (is_among c.args.name.now) c.self.view_is
