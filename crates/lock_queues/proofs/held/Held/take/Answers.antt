use Rattle.std.proofs.Common.{◌≡◌, ap, ◌∙◌, subst, not, ◌==◌, set, arith}
use Rattle.finite_maps.specs.Map.{keep}
use Rattle.lock_queues.specs.LockTable.{Holding}
use Rattle.lock_queues.specs.Records.{held_map}
use Rattle.lock_queues.proofs.HeldLemmas.{held-take, held-past}
use Rattle.lock_queues.proofs.held.Held.take.Goals as goal

pub returns-then-session-len : goal.returns-then-session-len
returns-then-session-len c =
    let sessions = c.self.inside.sessions.items in
    let i = c.args.session in
    ap held_map c.put.ensures ∙ ap (λ m. held_map (set sessions i m)) c.new.ensures ∙ held-take i sessions (omega arith)
    ∙ ap (λ m. keep (λ (h : Holding). not (h.0 == i)) m) c.self.view_is

pub returns-else-session-len : goal.returns-else-session-len
returns-else-session-len c =
    let i = c.args.session in
    subst (λ m. m ≡ keep (λ (h : Holding). not (h.0 == i)) m) c.self.view_is (held-past i c.self.inside.sessions.items (omega arith))
