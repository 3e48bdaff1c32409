use Rattle.std.proofs.Common.{◌≡◌, sym, ap, ◌∙◌, get_or, arith}
use Rattle.std.proofs.lemmas.List.{get_or_read}
use Rattle.finite_maps.specs.Map.{get, empty}
use Rattle.lock_modes.specs.Resource.{resource_at}
use Rattle.lock_queues.proofs.HeldLemmas.{get-held, held-none}
use Rattle.lock_queues.proofs.held.Held.mode_of.Goals as goal

pub returns-then-session-len : goal.returns-then-session-len
returns-then-session-len c =
    let r = resource_at c.args.place in
    let sessions = c.self.inside.sessions.items in
    let at : c.index.result.now ≡ get_or sessions c.args.session empty =
    get_or_read sessions c.args.session c.index.result.now (omega arith) c.index.ensures empty in
    c.get.ensures ∙ ap (λ m. get m r) at ∙ sym (get-held sessions (c.args.session, r)) ∙ ap (λ m. get m (c.args.session, r)) c.self.view_is

pub returns-else-session-len : goal.returns-else-session-len
returns-else-session-len c =
    let r = resource_at c.args.place in
    sym (held-none c.self.inside.sessions.items c.args.session r (omega arith)) ∙ ap (λ m. get m (c.args.session, r)) c.self.view_is
