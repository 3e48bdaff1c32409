use Rattle.std.proofs.Common.{string_bytes}
use Rattle.spec_findings.proofs.ToldLemmas.{tells-more}
use Rattle.spec_findings.proofs.told.push_faults.Goals as goal

pub loop-fault-preserved : goal.loop-fault-preserved
loop-fault-preserved c =
    tells-more c.args.path.now c.args.text.now (string_bytes c.args.told.now) (string_bytes c.loop-fault.told) (string_bytes c.push_also.new.told)
    c.args.faults.now c.loop-fault.fault-index _ c.loop-fault-test.true c.loop-fault.invariant c.in_ok-push_also.ensures.0 c.in_ok-push_also.ensures.1
