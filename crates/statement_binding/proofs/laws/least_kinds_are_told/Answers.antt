use Rattle.statement_binding.proofs.KindLemmas.{told-least, bound-none, told-declared}
use Rattle.statement_binding.proofs.laws.least_kinds_are_told.Goals as goal

pub returns : goal.returns
returns c = record { refused = told-least; bound = bound-none; declared = told-declared }
