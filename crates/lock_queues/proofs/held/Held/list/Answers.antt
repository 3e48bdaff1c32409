use Rattle.std.proofs.Common.{◌≡◌, sym, ap, ◌∙◌, subst, IfOk, get_or, arith}
use Rattle.std.proofs.lemmas.List.{get_or_read}
use Rattle.finite_maps.specs.Map.{entries, empty}
use Rattle.lock_queues.specs.LockTable.{slice}
use Rattle.lock_queues.proofs.Listing.{slice-held, slice-past}
use Rattle.lock_queues.proofs.held.Held.list.Goals as goal

pub returns-then-session-len : goal.returns-then-session-len
returns-then-session-len c =
    let i = c.args.session in
    let sessions = c.self.inside.sessions.items in
    let at : c.index.result.now ≡ get_or sessions i empty = get_or_read sessions i c.index.result.now (omega arith) c.index.ensures empty in
    subst (λ es. IfOk c.list.result (λ list. list.items ≡ es)) (ap entries (at ∙ sym (slice-held sessions i) ∙ ap (slice i) c.self.view_is)) c.list.ensures

-- nothing is kept for the session
pub returns-else-session-len : goal.returns-else-session-len
returns-else-session-len c =
    let i = c.args.session in
    c.new.ensures.items ∙ slice-past c.self.inside.sessions.items i (omega arith) ∙ ap (λ m. entries (slice i m)) c.self.view_is
