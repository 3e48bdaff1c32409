use Rattle.std.proofs.Common.{◌≡◌, subst}
use Rattle.marked_lists.specs.Versions.{Versions}
use Rattle.marked_rows.specs.Cells.{MarkedRows}
use Rattle.marked_rows.specs.Kept.{ended_in, ended_layers, seen_rows}
use Rattle.marked_rows.specs.declared.cell.Cell.{Cell}
use Rattle.marked_rows.proofs.ChangeLemmas.{end-kept, end-seen, part-kept}
use Rattle.marked_rows.proofs.rows.MarkedRows.end.Goals as goal

pub invariant_of-self : goal.invariant_of-self
invariant_of-self c =
    let i = c.self.inside in
    part-kept i.places i.rows i.cells i.written c.self.invariant c.end.new.cells c.args.session c.args.ending c.as_slice.result.now c.in_err-end.ensures.refused

pub invariant_of-self-2 : goal.invariant_of-self-2
invariant_of-self-2 c =
    let i = c.self.inside in
    let s = c.args.session in
    let e = c.args.ending in
    let cells : Versions Cell = i.cells in
    let all = subst (λ ws. c.end.new.cells ≡ record cells { list = ended_in s e ws cells.list }) c.as_slice.ensures c.in_ok-end.ensures.ended in
    end-kept i.places i.rows cells i.written c.self.invariant c.end.new.cells c.forget.new.written s e all c.forget.ensures

pub returns-clause-ended : goal.returns-clause-ended
returns-clause-ended c =
    let i = c.self.inside in
    let s = c.args.session in
    let e = c.args.ending in
    let cells : Versions Cell = i.cells in
    let all = subst (λ ws. c.end.new.cells ≡ record cells { list = ended_in s e ws cells.list }) c.as_slice.ensures c.in_ok-end.ensures.ended in
    subst (λ (m : MarkedRows). seen_rows i.places i.rows c.end.new.cells ≡ record m { now = ended_layers e s m.now }) c.self.view_is
    (end-seen i.places i.rows cells i.written c.self.invariant c.end.new.cells s e all)
