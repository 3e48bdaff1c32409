-- Why a walk is refused.
use Rattle.std.proofs.Common.{◌≡◌, refl, sym, ◌∙◌, ⊎_elim, arith}
use Rattle.bound_specs.specs.Spec.{Spec}
use Rattle.rank_facts.specs.declared.shard.Shard.{Shard}
use Rattle.rank_facts.specs.Shards.{IsShardOf}
use Rattle.session_machine.specs.declared.error.RunError.{RunError}
use Rattle.session_machine.specs.declared.error.RunError.TheVariants as run_error
use Rattle.session_steps.specs.declared.error.StartError.TheVariants as start_error
use Rattle.step_reducer.specs.Walking.{IsNotWalked, Starts}

-- a walk of a shard of a spec that starts is refused for want of memory alone
pub walks-but-for-memory : (spec : Spec) (shard : Shard) (error : RunError) → Starts spec → IsShardOf spec shard → IsNotWalked spec shard error
    → error ≡ run_error.NoMemory
walks-but-for-memory spec shard run_error.OutOfRange starts is h =
    let order = is.order in let inside = is.inside in absurd (⊎_elim (λ l. omega arith) (λ l. omega arith) h)
walks-but-for-memory spec shard run_error.TooLong starts is h = let few = is.few in let long = h.2 in absurd (omega arith)
walks-but-for-memory spec shard run_error.TooDeep starts is h = absurd h
walks-but-for-memory spec shard run_error.NoMemory starts is h = refl
walks-but-for-memory spec shard (run_error.Start start_error.NoMemory) starts is h = absurd h.1
walks-but-for-memory spec shard (run_error.Start (start_error.SetupFailed n)) starts is h = absurd (let e = sym starts.1 ∙ h.1 in cc)
walks-but-for-memory spec shard (run_error.Start (start_error.SessionSetupFailed n)) starts is h = absurd (let e = sym starts.1 ∙ h.1 in cc)
walks-but-for-memory spec shard (run_error.Start (start_error.SessionSetupWaits n)) starts is h = absurd (let e = sym starts.1 ∙ h.1 in cc)
