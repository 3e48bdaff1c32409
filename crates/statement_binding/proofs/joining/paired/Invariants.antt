use Rattle.std.proofs.Common.{◌≡◌, ◌++◌, List}
use Rattle.bound_statements.specs.declared.condition.Condition.{Condition}
use Rattle.binding_model.specs.Names.{maybe}
use Rattle.binding_model.specs.Translation.{paired}
use Rattle.statement_binding.proofs.joining.paired.Given as goal

abbrev pub invariant-loop-part : goal.invariant-loop-part
invariant-loop-part l = (rest : List Condition) →
    l.pairs.items ++ paired l.joint (maybe l.waiting ++ rest) ≡ paired l.joint (l.yielded ++ rest)
