use Rattle.std.proofs.Common.{◌≡◌, ◌++◌, sym, ap, ◌∙◌, [], ◌∷◌, append_assoc, append-nil}
use Rattle.finite_maps.specs.Map.{get}
use Rattle.lock_queues.specs.Records.{with_mode}
use Rattle.lock_queues.proofs.Listing.{sorted-none, sorted-more}
use Rattle.lock_queues.proofs.modes.Modes.sorted.Goals as goal

pub left-init : goal.left-init
left-init c = ([], append-nil c.args.resources.items, c.new-all.ensures ∙ sorted-none (get c.args.self.now))

pub left-preserved : goal.left-preserved
left-preserved c =
    let f = get c.args.self.now in
    let done = c.left.invariant.0 in
    let r = c.in-Some.resource in
    let mode : c.get-mode.result ≡ f r = c.get-mode.ensures ∙ ap f c.place.ensures in (
      r ∷ done,
      sym (append_assoc c.pop.new.self.items (r ∷ []) done) ∙ ap (λ rs. rs ++ done) (sym c.in-Some.ensures.items) ∙ c.left.invariant.1,
      c.in_ok-all.ensures ∙ (λ k. with_mode (c.left.invariant.2 k) r (mode k)) ∙ sorted-more f r done,
    )
