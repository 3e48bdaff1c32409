use Rattle.spec_reader.proofs.NameSets.{one_session_more}
use Rattle.spec_reader.proofs.known.KnownSessions.with.Goals as goal

pub invariant_of-result : goal.invariant_of-result
invariant_of-result c =
    one_session_more c.self.inside.each.items c.push.new.self.items c.args.session _ _ _ _ c.in_ok-push.ensures.items c.self.invariant
    (rw c.deref.ensures at c.in_ok-add.ensures) (rw c.deref-2.ensures.value at c.in_ok-add_steps.ensures)
