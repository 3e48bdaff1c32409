use Rattle.std.proofs.Common.{◌≡◌, ◌==◌, OnErr, not, subst}
use Rattle.finite_maps.specs.Map.{keep}
use Rattle.lock_queues.specs.LockTable.{Holding}
use Rattle.marked_lists.specs.Versions.{Versions}
use Rattle.marked_modes.specs.Held.{MarkedHolds, TakesSome, held_map}
use Rattle.marked_modes.specs.Kept.{cleared, holds_of}
use Rattle.marked_modes.specs.declared.row.ModeRow.{ModeRow}
use Rattle.marked_modes.proofs.ChangeLemmas.{clear-held, clear-kept, part-held, part-kept}
use Rattle.marked_modes.proofs.modes.MarkedModes.let_go.Goals as goal

pub invariant_of-self : goal.invariant_of-self
invariant_of-self c =
    part-kept c.self.inside.numbers.value.resources c.self.inside.rows c.self.inside.given c.self.invariant c.clear.new.rows c.args.session
    c.as_slice.result.now c.in_err-clear.ensures.refused

pub invariant_of-self-2 : goal.invariant_of-self-2
invariant_of-self-2 c =
    let s = c.args.session in
    let rows : Versions ModeRow = c.self.inside.rows in
    let all = subst (λ gs. c.clear.new.rows ≡ record rows { list = cleared s gs rows.list }) c.as_slice.ensures c.in_ok-clear.ensures.cleared in
    clear-kept c.self.inside.numbers.value.resources rows c.self.inside.given c.self.invariant c.clear.new.rows c.forget.new.given s all c.forget.ensures

pub returns-clause-gone : goal.returns-clause-gone
returns-clause-gone c =
    let s = c.args.session in
    let rs = c.self.inside.numbers.value.resources in
    let rows : Versions ModeRow = c.self.inside.rows in
    let all = subst (λ gs. c.clear.new.rows ≡ record rows { list = cleared s gs rows.list }) c.as_slice.ensures c.in_ok-clear.ensures.cleared in
    subst (λ (m : MarkedHolds). holds_of rs c.clear.new.rows ≡ record m { now = keep (λ (h : Holding). not (h.0 == s)) m.now }) c.self.view_is
    (clear-held rs rows c.self.inside.given c.self.invariant c.clear.new.rows s all)

pub returns-in_err-clear-clause-refused : goal.returns-in_err-clear-clause-refused
returns-in_err-clear-clause-refused c =
    let s = c.args.session in
    let rs = c.self.inside.numbers.value.resources in
    subst (λ (m : MarkedHolds). OnErr c.from_residual.result (TakesSome s m.now (held_map rs c.clear.new.rows.list))) c.self.view_is
    (part-held rs c.self.inside.rows c.self.inside.given c.self.invariant c.clear.new.rows s c.as_slice.result.now c.from_residual.result
    c.in_err-clear.ensures.refused)
