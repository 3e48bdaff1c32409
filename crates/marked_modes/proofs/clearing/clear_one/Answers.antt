use Rattle.std.proofs.Common.{rules, sym, ap, List}
use Rattle.std.proofs.lemmas.Option.{get_or_from_slice_get}
use Rattle.marked_modes.specs.Kept.{no_modes}
use Rattle.marked_modes.specs.declared.row.ModeRow.{ModeRow}
use Rattle.marked_modes.proofs.HeldLemmas.{clear-nothing, clear-put}
use Rattle.marked_modes.proofs.clearing.clear_one.Goals as goal

-- it has been taken away before
pub returns-then-is_none-clause-cleared : goal.returns-then-is_none-clause-cleared
returns-then-is_none-clause-cleared c =
    let rows = c.args.rows.now in
    let place = c.args.given.place in
    let there = get_or_from_slice_get rows.list place c.get-row.result no_modes c.get-row.ensures in
    ap (λ (list : List ModeRow). record rows { list = list })
    (sym (clear-nothing c.args.session c.args.given rows.list c.get-row.result there (search rules)))

pub returns-clause-cleared : goal.returns-clause-cleared
returns-clause-cleared c =
    let rows = c.args.rows.now in
    let place = c.args.given.place in
    let there = get_or_from_slice_get rows.list place c.get-row.result no_modes c.get-row.ensures in
    clear-put c.set.result c.args.session c.args.given rows c.set.new.self c.get-row.result c.with.result there c.with.ensures.row (search rules)
    c.set.ensures.set
