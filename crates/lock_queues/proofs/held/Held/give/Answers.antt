use Rattle.std.proofs.Common.{◌≡◌, sym, ap, ◌∙◌, set, get_or}
use Rattle.std.proofs.lemmas.List.{get_or_read}
use Rattle.finite_maps.specs.Map.{insert, empty}
use Rattle.lock_modes.specs.Resource.{resource_at}
use Rattle.lock_queues.specs.Records.{held_map}
use Rattle.lock_queues.proofs.HeldLemmas.{held-put, held-same}
use Rattle.lock_queues.proofs.held.Held.give.Goals as goal

-- the mode is held already
pub returns-then-is_mode-clause-given : goal.returns-then-is_mode-clause-given
returns-then-is_mode-clause-given c = sym (held-same _ _ _ (sym c.mode_of.ensures ∙ c.is_mode.ensures c.if-is_mode.true))

pub returns-clause-given : goal.returns-clause-given
returns-clause-given c =
    let i = c.args.session in
    let r = resource_at c.args.place in
    let sessions = c.reach.new.sessions.items in
    let inside = c.in_ok-reach.ensures.inside in
    let at : c.index.result.now ≡ get_or sessions i empty = get_or_read sessions i c.index.result.now inside c.index.ensures empty in
    ap held_map c.put-2.ensures ∙ ap (λ m. held_map (set sessions i m)) (c.in_ok-modes.ensures ∙ ap (λ m. insert m r c.args.mode) at)
    ∙ held-put i r c.args.mode sessions inside ∙ ap (λ m. insert m (i, r) c.args.mode) (c.reach.ensures.same ∙ c.self.view_is)
