use Rattle.std.proofs.Common.{subst, sym}
use Rattle.byte_runs.specs.Pieces.{FitsIn}
use Rattle.sql_grammar.proofs.Pieces.{fits}
use Rattle.sql_grammar.proofs.cutting.TokenCut.piece_of.Goals as goal

pub returns-clause-fits : goal.returns-clause-fits
returns-clause-fits c = subst (FitsIn c.args.text.now) (sym c.piece_of.ensures) (fits c.args.text.now c.utf8.text)
