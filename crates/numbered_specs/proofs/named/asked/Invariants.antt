use Rattle.std.proofs.Common.{[], map}
use Rattle.numbered_specs.specs.Numbers.{asked_in, sent_by}
use Rattle.numbered_specs.proofs.AskedLemmas.{AreGiven}
use Rattle.numbered_specs.proofs.named.asked.Given as goal

-- the first setups are gone through
abbrev pub invariant-loop-block : goal.invariant-loop-block
invariant-loop-block l = AreGiven asked_in l.spec.run.setups [] l.block-index l.resources.items

-- the first setups of sessions
abbrev pub invariant-loop-block-2 : goal.invariant-loop-block-2
invariant-loop-block-2 l = AreGiven asked_in l.spec.run.session_setups l.initial.resources.items l.block-index l.resources.items

-- the first steps
abbrev pub invariant-loop-step : goal.invariant-loop-step
invariant-loop-step l = AreGiven asked_in (map sent_by l.spec.run.steps) l.initial.resources.items l.step l.resources.items
