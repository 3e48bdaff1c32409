use Rattle.std.proofs.Common.{rules, sym, ap, List}
use Rattle.std.proofs.lemmas.Option.{get_or_from_slice_get}
use Rattle.marked_rows.specs.Cells.{blank}
use Rattle.marked_rows.specs.declared.cell.Cell.{Cell}
use Rattle.marked_rows.proofs.EndingLemmas.{end-nothing, end-put}
use Rattle.marked_rows.proofs.ending.end_one.Goals as goal

-- nothing of the session's lies there
pub returns-then-not-is_of-clause-ended : goal.returns-then-not-is_of-clause-ended
returns-then-not-is_of-clause-ended c =
    let cells = c.args.cells.now in
    let place = c.args.written.cell in
    let there = get_or_from_slice_get cells.list place c.get-cell.result blank c.get-cell.ensures in
    ap (λ (list : List Cell). record cells { list = list })
    (sym (end-nothing c.args.session c.args.ending c.args.written cells.list c.get-cell.result there (search rules)))

pub returns-clause-ended : goal.returns-clause-ended
returns-clause-ended c =
    let cells = c.args.cells.now in
    let place = c.args.written.cell in
    let there = get_or_from_slice_get cells.list place c.get-cell.result blank c.get-cell.ensures in
    end-put c.args.session c.args.ending c.set.result c.args.written cells c.set.new.self c.get-cell.result c.ended.result there c.ended.ensures (search rules)
    c.set.ensures.set
