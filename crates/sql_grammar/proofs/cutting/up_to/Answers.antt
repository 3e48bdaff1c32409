use Rattle.std.proofs.lemmas.Str.{IsCharBoundary-after_ascii}
use Rattle.sql_grammar.proofs.cutting.up_to.Goals as goal

pub split_at-requires : goal.split_at-requires
split_at-requires c = IsCharBoundary-after_ascii c.args.text.now c.args.last c.utf8.text c.requires.within c.requires.ascii
