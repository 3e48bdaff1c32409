use Rattle.std.proofs.Common.{◌∙◌, ◌==◌, Some, ap, get_or, sym}
use Rattle.std.specs.List.{position}
use Rattle.std.specs.Option.{option_map}
use Rattle.lock_queues.specs.declared.wait.Wait.{Wait}
use Rattle.lock_queues.specs.Locks.{wanted_by}
use Rattle.lock_queues.specs.LockTable.{look_at}
use Rattle.lock_queues.specs.Rules.{wait_of}
use Rattle.numbered_specs.specs.Numbers.{resource_of}
use Rattle.marked_locks.specs.Queued.{MarkedTable, wait_of as at_number}
use Rattle.marked_locks.specs.Places.{no_wait}
use Rattle.marked_locks.specs.declared.wait.NumberedWait.{NumberedWait}
use Rattle.marked_locks.proofs.TableLemmas.{find-none, find-some}
use Rattle.marked_locks.proofs.locks.MarkedLocks.wait_of.Goals as goal

pub returns-in-None-clause-wait : goal.returns-in-None-clause-wait
returns-in-None-clause-wait c =
    let rs = c.self.inside.modes.resources in
    let i = c.args.session in
    let none = ap (position (λ (w : NumberedWait). w.session == i)) (sym c.as_slice-waits.ensures) ∙ sym c.place_of_wait.ensures ∙ c.in-None.is in
    sym (ap (option_map (λ (w : Wait). (w.resource, wanted_by (look_at c.self.inside.modes.now) w))) (find-none rs i c.self.inside.waits.list none))
    ∙ ap (λ (t : MarkedTable). wait_of t.now i) c.self.view_is

pub returns-in-Some-clause-wait : goal.returns-in-Some-clause-wait
returns-in-Some-clause-wait c =
    let rs = c.self.inside.modes.resources in
    let look = look_at c.self.inside.modes.now in
    let ws = c.self.inside.waits.list in
    let k = c.in-Some.place in
    let i = c.args.session in
    let some = ap (position (λ (w : NumberedWait). w.session == i)) (sym c.as_slice-waits.ensures) ∙ sym c.place_of_wait.ensures ∙ c.in-Some.is in
    let there = get_or c.as_slice-waits.result.now k no_wait in
    ap (λ (t : MarkedTable). Some (resource_of t.resources there.resource, c.wanted.result)) (sym c.self.view_is)
    ∙ ap (λ m. Some (resource_of rs there.resource, m)) c.wanted.ensures
    ∙ ap (λ us. Some (resource_of rs (get_or us k no_wait).resource, wanted_by look (at_number rs (get_or us k no_wait)))) c.as_slice-waits.ensures
    ∙ sym (ap (option_map (λ (w : Wait). (w.resource, wanted_by look w))) (find-some rs i ws k some))
    ∙ ap (λ (t : MarkedTable). wait_of t.now i) c.self.view_is
