use Rattle.std.proofs.Common.{take, string_bytes}
use Rattle.spec_findings.specs.Told.{TellsFaults}
use Rattle.spec_findings.proofs.told.push_faults.Given as goal

abbrev pub invariant-loop-fault : goal.invariant-loop-fault
invariant-loop-fault l = TellsFaults l.path l.text (string_bytes l.initial.told) (take l.fault-index l.faults) (string_bytes l.told)
