use Rattle.std.proofs.Common.{◌∷◌, arith}
use Rattle.statement_binding.proofs.JoinLemmas.{joined-leaves}
use Rattle.statement_binding.proofs.ChainedLemmas.{of-joined, names-first, names-none}
use Rattle.statement_binding.proofs.laws.chains_are_lists.Goals as goal

pub returns : goal.returns
returns c = record {
  kept = λ j a cs. joined-leaves j (a ∷ cs) (omega arith);
  parts = λ level j h a cs. of-joined level j h a cs;
  first_key = names-first;
  no_key = names-none;
}
