use Rattle.std.proofs.Common.{◌-◌, All, sym, subst}
use Rattle.file_blocks.specs.Blocks.{sent_tree}
use Rattle.spec_findings.specs.declared.TheConstants.{MAX_FAULTS}
use Rattle.spec_findings.specs.Faults.{IsFaultOf}
use Rattle.spec_findings.proofs.FaultLemmas.{faults-with, faults-first}
use Rattle.spec_findings.proofs.faults.faults_of.Goals as goal

pub loop-sent-preserved : goal.loop-sent-preserved
loop-sent-preserved c =
    faults-with c.args.blocks.now c.loop-sent.sent-index c.sent-item.result c.sent-item.is c.loop-sent-test.true c.loop-sent.all.items
    c.deref.result.now c.extend_from_slice.new.self.items c.in_ok-extend_from_slice.ensures.items
    (subst (All (IsFaultOf (sent_tree c.sent-item.result))) (sym c.deref.ensures.value) c.in_ok-more.ensures) c.loop-sent.invariant

pub returns : goal.returns
returns c =
    faults-first c.args.blocks.now (MAX_FAULTS - 1) c.loop-sent.all.items c.truncate.new.self.items c.truncate.ensures.items c.loop-sent.invariant
