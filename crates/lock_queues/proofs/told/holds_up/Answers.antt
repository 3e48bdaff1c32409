use Rattle.std.proofs.Common.{◌≡◌, ap, sym, ◌∙◌, true, false, ◌||◌}
use Rattle.std.specs.List.{list_any}
use Rattle.lock_queues.specs.Locks.{Spot, fits_with, wanted_by, holds_up}
use Rattle.lock_queues.specs.LockTable.{look_at}
use Rattle.lock_queues.specs.Sides.{is_told}
use Rattle.lock_queues.proofs.Walking.{up-is}
use Rattle.lock_queues.proofs.told.holds_up.Goals as goal

pub returns-then-is_any_told : goal.returns-then-is_any_told
returns-then-is_any_told c =
    let look = look_at c.args.held.now in
    let b = c.args.session in
    let s : Spot = record { before = c.spot.inside.before.now; wait = c.spot.inside.wait.now; after = c.spot.inside.after.now } in
    let theirs = c.mode_of-theirs.ensures ∙ ap (look b) c.place.ensures in
    let fits : fits_with (wanted_by look s.wait) (look b s.wait.resource) ≡ true =
    sym (c.if-not-fits_with.ensures ∙ (λ i. fits_with (c.wanted.ensures i) (theirs i))) in
    let told : true ≡ list_any (is_told look b s.wait true) s.before = c.if-is_any_told.ensures in
    ap (λ t. t || list_any (is_told look b s.wait false) s.after) told ∙ up-is look s b c.if-wait-session.false fits
    ∙ ap (λ t. holds_up look t b) c.spot.view_is

pub returns : goal.returns
returns c =
    let look = look_at c.args.held.now in
    let b = c.args.session in
    let s : Spot = record { before = c.spot.inside.before.now; wait = c.spot.inside.wait.now; after = c.spot.inside.after.now } in
    let theirs = c.mode_of-theirs.ensures ∙ ap (look b) c.place.ensures in
    let fits : fits_with (wanted_by look s.wait) (look b s.wait.resource) ≡ true =
    sym (c.if-not-fits_with.ensures ∙ (λ i. fits_with (c.wanted.ensures i) (theirs i))) in
    let told : false ≡ list_any (is_told look b s.wait true) s.before = c.if-is_any_told.ensures in
    c.is_any_told-2.ensures ∙ ap (λ t. t || list_any (is_told look b s.wait false) s.after) told ∙ up-is look s b c.if-wait-session.false fits
    ∙ ap (λ t. holds_up look t b) c.spot.view_is
