use Rattle.std.proofs.Common.{◌≡◌, ◌<◌, ◌∙◌, ◌==◌, OnErr, OnOk, ap, eqb-true, subst, sym}
use Rattle.std.specs.List.{position}
use Rattle.std.proofs.lemmas.List.Quantifiers.{position-Some}
use Rattle.std.proofs.lemmas.Option.{get_or_from_slice_get}
use Rattle.lock_queues.specs.Locks.{Spot}
use Rattle.lock_queues.specs.LockTable.{grant}
use Rattle.lock_queues.specs.Rules.{IsNext, IsNextOf}
use Rattle.marked_modes.specs.declared.row.TheConstants.{MAX_HOLDERS}
use Rattle.marked_locks.specs.Queued.{GrantsOnly, MarkedTable, table_of}
use Rattle.marked_locks.specs.Kept.{IsKnown}
use Rattle.marked_locks.specs.Places.{no_wait}
use Rattle.marked_locks.specs.declared.wait.NumberedWait.{NumberedWait}
use Rattle.marked_locks.proofs.KeepLemmas.{granted-kept}
use Rattle.marked_locks.proofs.SeenLemmas.{known-at}
use Rattle.marked_locks.proofs.TableLemmas.{granted-next, granted-refused, none-next}
use Rattle.marked_locks.proofs.locks.MarkedLocks.grant.Goals as goal

pub unreachable-requires : goal.unreachable-requires
unreachable-requires c =
    let i = c.args.session in
    let found = ap (position (λ (w : NumberedWait). w.session == i)) (sym c.as_slice.ensures) ∙ sym c.place_of_wait.ensures ∙ c.in_default.is in
    none-next c.self.inside.modes.resources i c.self.inside.modes.now c.self.inside.waits.list found
    (subst (λ (t : MarkedTable). IsNextOf t.now i) (sym c.self.view_is) c.requires)

pub wanted-mode-requires : goal.wanted-mode-requires
wanted-mode-requires c =
    let rs = c.self.inside.modes.resources in
    let ws = c.self.inside.waits.list in
    let k = c.in-Some.place in
    let i = c.args.session in
    let found = ap (position (λ (w : NumberedWait). w.session == i)) (sym c.as_slice.ensures) ∙ sym c.place_of_wait.ensures ∙ c.in-Some.is in
    let lt = (position-Some (λ (w : NumberedWait). w.session == i) ws k no_wait found).0 in
    subst (IsKnown rs) (get_or_from_slice_get ws k c.get-wait.result no_wait c.get-wait.ensures) (known-at rs ws k c.self.invariant.now.known lt)

pub give-requires-clause-session : goal.give-requires-clause-session
give-requires-clause-session c =
    let rs = c.self.inside.modes.resources in
    let ws = c.self.inside.waits.list in
    let k = c.in-Some.place in
    let i = c.args.session in
    let found = ap (position (λ (w : NumberedWait). w.session == i)) (sym c.as_slice.ensures) ∙ sym c.place_of_wait.ensures ∙ c.in-Some.is in
    let at = position-Some (λ (w : NumberedWait). w.session == i) ws k no_wait found in
    subst (λ s. s < MAX_HOLDERS) (eqb-true _ i at.1) (known-at rs ws k c.self.invariant.now.known at.0).session

pub give-requires-clause-number : goal.give-requires-clause-number
give-requires-clause-number c =
    let rs = c.self.inside.modes.resources in
    let ws = c.self.inside.waits.list in
    let k = c.in-Some.place in
    let i = c.args.session in
    let found = ap (position (λ (w : NumberedWait). w.session == i)) (sym c.as_slice.ensures) ∙ sym c.place_of_wait.ensures ∙ c.in-Some.is in
    let lt = (position-Some (λ (w : NumberedWait). w.session == i) ws k no_wait found).0 in
    let known = subst (IsKnown rs) (get_or_from_slice_get ws k c.get-wait.result no_wait c.get-wait.ensures) (known-at rs ws k c.self.invariant.now.known lt) in
    known.number

pub invariant_of-self-2 : goal.invariant_of-self-2
invariant_of-self-2 c =
    let ws = c.self.inside.waits.list in
    let k = c.in-Some.place in
    let i = c.args.session in
    let found = ap (position (λ (w : NumberedWait). w.session == i)) (sym c.as_slice.ensures) ∙ sym c.place_of_wait.ensures ∙ c.in-Some.is in
    let there = get_or_from_slice_get ws k c.get-wait.result no_wait c.get-wait.ensures in
    let next = subst (λ (t : MarkedTable). IsNextOf t.now i) (sym c.self.view_is) c.requires in
    granted-kept c.tables_stay_sound.ensures c.self.inside.modes c.give.new.self c.self.inside.waits c.remove_wait.new.waits i k c.wanted-mode.result
    c.get-wait.result c.remove_wait.result c.self.invariant found there c.wanted-mode.ensures c.in_ok-give.ensures.given next
    c.remove_wait.ensures.removed c.remove_wait.ensures.refused

pub returns-clause-granted : goal.returns-clause-granted
returns-clause-granted c =
    let ws = c.self.inside.waits.list in
    let k = c.in-Some.place in
    let i = c.args.session in
    let found = ap (position (λ (w : NumberedWait). w.session == i)) (sym c.as_slice.ensures) ∙ sym c.place_of_wait.ensures ∙ c.in-Some.is in
    let there = get_or_from_slice_get ws k c.get-wait.result no_wait c.get-wait.ensures in
    let next = subst (λ (t : MarkedTable). IsNextOf t.now i) (sym c.self.view_is) c.requires in
    subst (λ (t : MarkedTable). OnOk c.remove_wait.result ((s : Spot) → IsNext t.now s
    → table_of c.give.new.self c.remove_wait.new.waits ≡ record t { now = grant t.now s })) c.self.view_is
    (granted-next c.self.inside.modes c.give.new.self c.self.inside.waits i k c.wanted-mode.result c.get-wait.result c.self.invariant found there
    c.wanted-mode.ensures c.in_ok-give.ensures.given c.remove_wait.new.waits c.remove_wait.result next c.remove_wait.ensures.removed)

pub returns-clause-refused : goal.returns-clause-refused
returns-clause-refused c =
    let ws = c.self.inside.waits.list in
    let k = c.in-Some.place in
    let i = c.args.session in
    let found = ap (position (λ (w : NumberedWait). w.session == i)) (sym c.as_slice.ensures) ∙ sym c.place_of_wait.ensures ∙ c.in-Some.is in
    let there = get_or_from_slice_get ws k c.get-wait.result no_wait c.get-wait.ensures in
    let next = subst (λ (t : MarkedTable). IsNextOf t.now i) (sym c.self.view_is) c.requires in
    subst (λ (t : MarkedTable). OnErr c.remove_wait.result (GrantsOnly t.now (table_of c.give.new.self c.remove_wait.new.waits).now)) c.self.view_is
    (granted-refused c.self.inside.modes c.give.new.self c.self.inside.waits i k c.wanted-mode.result c.get-wait.result c.self.invariant found there
    c.wanted-mode.ensures c.in_ok-give.ensures.given c.remove_wait.new.waits c.remove_wait.result next c.remove_wait.ensures.refused)
