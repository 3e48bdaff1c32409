use Rattle.std.proofs.Common.{◌≡◌, ℕ, List, Some, None, IfOk, IfErr, subst}
use Rattle.bound_specs.specs.Spec.{SpecFile}
use Rattle.machine_model.specs.Start.{start}
use Rattle.machine_model.specs.Outcome.{IsOutcomeOf, outcome_of_line}
use Rattle.serial_history.specs.Serial.{IsSerial}
use Rattle.session_machine.specs.Running.{IsNotRunBy}
use Rattle.session_machine.proofs.runs.run_one.Goals as goal

-- the world is of the spec, and the steps are the line's

pub run_line-requires-clause-known : goal.run_line-requires-clause-known
run_line-requires-clause-known c = rw (c.as_slice.ensures.value, c.in-Ok.ensures.of_spec) c.requires

pub run_line-requires-clause-started : goal.run_line-requires-clause-started
run_line-requires-clause-started c = rw c.in-Ok.ensures.of_spec c.in-Ok.ensures.started

pub run_line-requires-clause-always : goal.run_line-requires-clause-always
run_line-requires-clause-always c = rw c.in-Ok.ensures.of_spec c.known.ensures.always

pub returns-in-Ok-clause-ran : goal.returns-in-Ok-clause-ran
returns-in-Ok-clause-ran c = subst (λ (f : SpecFile). IfOk c.run_line.result (λ outcome. outcome_of_line f.run c.args.line.now.items ≡ Some outcome))
    c.in-Ok.ensures.of_spec
    (subst (λ (ks : List ℕ). IfOk c.run_line.result (λ outcome. outcome_of_line c.in-Ok.world.file.run ks ≡ Some outcome)) c.as_slice.ensures.value
    c.run_line.ensures.ran)

pub returns-in-Ok-clause-serial : goal.returns-in-Ok-clause-serial
returns-in-Ok-clause-serial c = subst (λ (f : SpecFile). IfOk c.run_line.result (λ outcome. f.asked ≡ None → IsSerial f.run c.args.line.now.items outcome)) c.in-Ok.ensures.of_spec
    (subst (λ (ks : List ℕ). IfOk c.run_line.result (λ outcome. c.in-Ok.world.file.asked ≡ None → IsSerial c.in-Ok.world.file.run ks outcome)) c.as_slice.ensures.value c.run_line.ensures.serial)

pub returns-in-Ok-clause-own : goal.returns-in-Ok-clause-own
returns-in-Ok-clause-own c = subst (λ (f : SpecFile). IfOk c.run_line.result (IsOutcomeOf f.run)) c.in-Ok.ensures.of_spec c.run_line.ensures.own

pub returns-in-Ok-clause-refused : goal.returns-in-Ok-clause-refused
returns-in-Ok-clause-refused c = subst (λ (f : SpecFile). IfErr c.run_line.result (λ error. IsNotRunBy error (start f.run))) c.in-Ok.ensures.of_spec
    c.run_line.ensures.refused
