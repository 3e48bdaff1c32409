use Rattle.std.proofs.Common.{sym, ap, ◌∙◌, length}
use Rattle.line_moments.proofs.StaleReads.{longer}
use Rattle.line_moments.proofs.stale.are_same.Goals as goal

pub returns-then-events : goal.returns-then-events
returns-then-events c = sym (longer c.args.a.now c.args.b.now (λ k. c.if-events.true (ap length c.events.ensures ∙ k ∙ sym (ap length c.events-2.ensures))))
