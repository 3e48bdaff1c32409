use Rattle.std.proofs.Common.{sym, subst}
use Rattle.bound_specs.specs.Binding.{IsFileOf}
use Rattle.shard_farm.proofs.farm.run_plan.Goals as goal

-- the board is of the spec, for which levels are not asked for
pub run_all-workers-requires-clause-file : goal.run_all-workers-requires-clause-file
run_all-workers-requires-clause-file g c = λ κs within.
    subst (IsFileOf c.text.result.now) (sym c.requires.reserved.of_spec)
    (subst (λ t. IsFileOf t c.args.spec.now) (sym c.text.ensures) (c.known.ensures.of c.requires.unasked))
