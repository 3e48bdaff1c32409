use Rattle.std.proofs.Common.{◌≡◌, drop}
use Rattle.statement_evaluation.specs.Effect.{all_aggregated}
use Rattle.statement_evaluation.proofs.ListLemmas.{onto}
use Rattle.statement_evaluation.proofs.select.aggregates.Given as goal

-- with those that are left they are all
abbrev pub invariant-loop-aggregate : goal.invariant-loop-aggregate
invariant-loop-aggregate l = onto l.values.items (all_aggregated (drop l.aggregate-index l.each) l.found) ≡ all_aggregated l.each l.found
