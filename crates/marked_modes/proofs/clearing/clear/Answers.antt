use Rattle.std.proofs.Common.{◌<◌, List, length, subst, sym, ap, ◌∙◌, take, get_or}
use Rattle.std.proofs.lemmas.List.Elements.{All-get_or}
use Rattle.marked_lists.specs.Versions.{Versions}
use Rattle.marked_modes.specs.Kept.{IsInside, cleared_of}
use Rattle.marked_modes.specs.declared.row.Given.{Given}
use Rattle.marked_modes.specs.declared.row.ModeRow.{ModeRow}
use Rattle.marked_modes.proofs.HeldLemmas.{cleared-more, length-cleared}
use Rattle.marked_modes.proofs.clearing.clear.Goals as goal

pub clear_one-requires-clause-inside : goal.clear_one-requires-clause-inside
clear_one-requires-clause-inside c =
    let rows = c.args.rows.now.list in
    let given = c.args.given.now in
    let first : Given = record { session = 0; place = 0 } in
    let inside = All-get_or (IsInside rows) given c.loop-place.place first c.loop-place-test.true c.requires.inside in
    let same = ap (λ (r : Versions ModeRow). length r.list) c.loop-place.invariant ∙ length-cleared c.args.session (take c.loop-place.place given) rows in
    subst (λ n. (get_or given c.loop-place.place first).place < n) (sym same) inside

pub loop-place-preserved : goal.loop-place-preserved
loop-place-preserved c =
    let rows : Versions ModeRow = c.args.rows.now in
    let given = c.args.given.now in
    let s = c.args.session in
    let first : Given = record { session = 0; place = 0 } in
    c.in_ok-clear_one.ensures.cleared
    ∙ ap (λ (r : Versions ModeRow). record r { list = cleared_of s (get_or given c.loop-place.place first) r.list }) c.loop-place.invariant
    ∙ ap (λ (list : List ModeRow). record rows { list = list })
    (sym (cleared-more s given c.loop-place.place first rows.list c.loop-place-test.true))
