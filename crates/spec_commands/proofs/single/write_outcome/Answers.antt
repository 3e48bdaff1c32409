use Rattle.std.proofs.Common.{◌≡◌, sym, subst, length, arith}
use Rattle.std.specs.List.{All}
use Rattle.events.specs.Fits.{HasStep}
use Rattle.machine_model.proofs.Owned.{outcome-named}
use Rattle.spec_commands.proofs.single.write_outcome.Goals as goal

-- an outcome of the spec names its sessions and its steps alone
pub print-requires-clause-named : goal.print-requires-clause-named
print-requires-clause-named g c =
    let spec = c.args.spec.now in
    let o = c.args.outcome.now in
    let sessions : length c.session_names.result.now ≡ spec.run.sessions = c.session_names.ensures.each in
    let steps : length c.step_names.result.now ≡ length spec.run.steps = c.step_names.ensures.each in
    let each : length o ≡ spec.run.sessions = c.requires.own.each in
    record {
      each_session = omega (arith, sessions, each);
      each_step = subst (λ n. All (All (HasStep n)) o) (sym steps) (outcome-named spec.run o c.requires.own);
    }
