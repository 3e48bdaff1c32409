use Rattle.std.proofs.Common.{◌<◌, List, length, subst, sym, ap, ◌∙◌, take, get_or}
use Rattle.std.proofs.lemmas.List.Elements.{All-get_or}
use Rattle.marked_lists.specs.Versions.{Versions}
use Rattle.marked_rows.specs.Kept.{IsInside, ended_at}
use Rattle.marked_rows.specs.declared.cell.Cell.{Cell}
use Rattle.marked_rows.specs.declared.cell.Written.{Written}
use Rattle.marked_rows.proofs.EndingLemmas.{ended-more, length-ended}
use Rattle.marked_rows.proofs.ending.end.Goals as goal

pub end_one-requires : goal.end_one-requires
end_one-requires c =
    let cells = c.args.cells.now.list in
    let written = c.args.written.now in
    let first : Written = record { session = 0; cell = 0 } in
    let inside = All-get_or (IsInside cells) written c.loop-place.place first c.loop-place-test.true c.requires in
    let same = ap (λ (r : Versions Cell). length r.list) c.loop-place.invariant
    ∙ length-ended c.args.session c.args.ending (take c.loop-place.place written) cells in
    subst (λ n. (get_or written c.loop-place.place first).cell < n) (sym same) inside

pub loop-place-preserved : goal.loop-place-preserved
loop-place-preserved c =
    let cells : Versions Cell = c.args.cells.now in
    let written = c.args.written.now in
    let s = c.args.session in
    let e = c.args.ending in
    let first : Written = record { session = 0; cell = 0 } in
    c.in_ok-end_one.ensures.ended
    ∙ ap (λ (r : Versions Cell). record r { list = ended_at s e (get_or written c.loop-place.place first) r.list }) c.loop-place.invariant
    ∙ ap (λ (list : List Cell). record cells { list = list })
    (sym (ended-more s e written c.loop-place.place first cells.list c.loop-place-test.true))
