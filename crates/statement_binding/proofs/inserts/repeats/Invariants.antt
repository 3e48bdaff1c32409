use Rattle.std.proofs.Common.{◌≡◌, [], take, drop}
use Rattle.binding_model.specs.Names.{repeats}
use Rattle.statement_binding.proofs.inserts.repeats.Given as goal

abbrev pub invariant-loop-n : goal.invariant-loop-n
invariant-loop-n l = repeats (take l.n l.numbers) (drop l.n l.numbers) ≡ repeats [] l.numbers
