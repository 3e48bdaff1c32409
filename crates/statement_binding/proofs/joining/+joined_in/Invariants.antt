use Rattle.statement_binding.proofs.joining.+joined_in.Given as goal

abbrev pub decreases-joined_in : goal.decreases-joined_in
decreases-joined_in l = l.turns
