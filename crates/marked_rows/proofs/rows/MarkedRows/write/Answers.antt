use Rattle.std.proofs.Common.{◌≡◌, ◌∙◌, OnErr, OnOk, ap, rules, set, subst, sym}
use Rattle.lock_modes.specs.RowPlace.{RowPlace}
use Rattle.lock_modes.specs.Rows.{Tuple}
use Rattle.row_tables.specs.Layers.{IsOnlyWriterAt, wrote}
use Rattle.marked_lists.specs.Versions.{Versions}
use Rattle.marked_rows.specs.Cells.{MarkedRows}
use Rattle.marked_rows.specs.Kept.{IsKept, seen_rows}
use Rattle.marked_rows.specs.declared.cell.Cell.{Cell}
use Rattle.marked_rows.specs.declared.cell.Written.{Written}
use Rattle.marked_rows.proofs.ChangeLemmas.{grown-kept, grown-seen, more-kept, more-seen, reached-kept, reached-seen, refused-seen, write-kept, write-seen}
use Rattle.marked_rows.proofs.rows.MarkedRows.write.Goals as goal

pub invariant_of-self : goal.invariant_of-self
invariant_of-self c =
    let i = c.self.inside in
    let p : RowPlace = (c.args.table, c.args.key.now) in
    grown-kept i.places i.rows i.cells i.written c.self.invariant p c.number_of.new.self c.number_of.ensures.grown

pub returns-in_err-place-clause-refused : goal.returns-in_err-place-clause-refused
returns-in_err-place-clause-refused c =
    let i = c.self.inside in
    let p : RowPlace = (c.args.table, c.args.key.now) in
    let same = grown-seen i.places i.rows i.cells i.written c.self.invariant p c.number_of.new.self c.number_of.ensures.grown ∙ c.self.view_is in
    search (rules, same)

pub invariant_of-self-in_err-reach : goal.invariant_of-self-in_err-reach
invariant_of-self-in_err-reach c =
    let i = c.self.inside in
    let p : RowPlace = (c.args.table, c.args.key.now) in
    let n = c.in_ok-place.place in
    let cells : Versions Cell = c.reach.new.cells in
    let kept = reached-kept i.places i.rows i.cells i.written c.self.invariant p c.number_of.new.self c.number_of.ensures.grown n c.in_ok-place.ensures.known cells
    c.reach.ensures.blanks in
    kept

pub returns-in_err-reach-clause-refused : goal.returns-in_err-reach-clause-refused
returns-in_err-reach-clause-refused c =
    let i = c.self.inside in
    let p : RowPlace = (c.args.table, c.args.key.now) in
    let n = c.in_ok-place.place in
    let cells : Versions Cell = c.reach.new.cells in
    let kept = reached-kept i.places i.rows i.cells i.written c.self.invariant p c.number_of.new.self c.number_of.ensures.grown n c.in_ok-place.ensures.known cells
    c.reach.ensures.blanks in
    let same = reached-seen i.places i.rows i.cells i.written c.self.invariant p c.number_of.new.self c.number_of.ensures.grown n c.in_ok-place.ensures.known cells
    c.reach.ensures.blanks ∙ c.self.view_is in
    search (rules, same)

pub invariant_of-self-in_err-number : goal.invariant_of-self-in_err-number
invariant_of-self-in_err-number c =
    let i = c.self.inside in
    let p : RowPlace = (c.args.table, c.args.key.now) in
    let n = c.in_ok-place.place in
    let cells : Versions Cell = c.reach.new.cells in
    let kept = reached-kept i.places i.rows i.cells i.written c.self.invariant p c.number_of.new.self c.number_of.ensures.grown n c.in_ok-place.ensures.known cells
    c.reach.ensures.blanks in
    subst (λ (rs : Versions Tuple). IsKept c.number_of.new.self rs cells i.written) (sym c.in_err-number.ensures.refused) kept

pub returns-in_err-number-clause-refused : goal.returns-in_err-number-clause-refused
returns-in_err-number-clause-refused c =
    let i = c.self.inside in
    let p : RowPlace = (c.args.table, c.args.key.now) in
    let n = c.in_ok-place.place in
    let cells : Versions Cell = c.reach.new.cells in
    let kept = reached-kept i.places i.rows i.cells i.written c.self.invariant p c.number_of.new.self c.number_of.ensures.grown n c.in_ok-place.ensures.known cells
    c.reach.ensures.blanks in
    let same = reached-seen i.places i.rows i.cells i.written c.self.invariant p c.number_of.new.self c.number_of.ensures.grown n c.in_ok-place.ensures.known cells
    c.reach.ensures.blanks ∙ c.self.view_is in
    let all = ap (λ (rs : Versions Tuple). seen_rows c.number_of.new.self rs cells) c.in_err-number.ensures.refused ∙ same in
    search (rules, all)

pub invariant_of-self-in_err-note : goal.invariant_of-self-in_err-note
invariant_of-self-in_err-note c =
    let i = c.self.inside in
    let p : RowPlace = (c.args.table, c.args.key.now) in
    let n = c.in_ok-place.place in
    let cells : Versions Cell = c.reach.new.cells in
    let kept = reached-kept i.places i.rows i.cells i.written c.self.invariant p c.number_of.new.self c.number_of.ensures.grown n c.in_ok-place.ensures.known cells
    c.reach.ensures.blanks in
    subst (λ (ws : Versions Written). IsKept c.number_of.new.self c.add.new.self cells ws) (sym c.in_err-note.ensures.refused)
    (more-kept c.number_of.new.self i.rows cells i.written kept c.args.row c.add.new.self c.in_ok-number.ensures.added)

pub returns-in_err-note-clause-refused : goal.returns-in_err-note-clause-refused
returns-in_err-note-clause-refused c =
    let i = c.self.inside in
    let p : RowPlace = (c.args.table, c.args.key.now) in
    let n = c.in_ok-place.place in
    let cells : Versions Cell = c.reach.new.cells in
    let kept = reached-kept i.places i.rows i.cells i.written c.self.invariant p c.number_of.new.self c.number_of.ensures.grown n c.in_ok-place.ensures.known cells
    c.reach.ensures.blanks in
    let same = reached-seen i.places i.rows i.cells i.written c.self.invariant p c.number_of.new.self c.number_of.ensures.grown n c.in_ok-place.ensures.known cells
    c.reach.ensures.blanks ∙ c.self.view_is in
    let all = more-seen c.number_of.new.self i.rows cells i.written kept c.args.row c.add.new.self c.in_ok-number.ensures.added ∙ same in
    search (rules, all)

pub invariant_of-self-2 : goal.invariant_of-self-2
invariant_of-self-2 c =
    let i = c.self.inside in
    let p : RowPlace = (c.args.table, c.args.key.now) in
    let n = c.in_ok-place.place in
    let cells : Versions Cell = c.reach.new.cells in
    let kept = reached-kept i.places i.rows i.cells i.written c.self.invariant p c.number_of.new.self c.number_of.ensures.grown n c.in_ok-place.ensures.known cells
    c.reach.ensures.blanks in
    let sets = subst (λ x. OnOk c.set.result (c.set.new.self ≡ record cells { list = set cells.list n x })) c.with.ensures c.set.ensures.set in
    write-kept c.number_of.new.self i.rows cells i.written kept c.args.session n p c.get-cell.result c.args.row c.in_ok-number.number
    c.in_ok-place.ensures.known c.in_ok-reach.ensures.there c.get-cell.ensures c.add.new.self c.set.new.self c.note.new.written c.set.result
    c.in_ok-number.ensures.added c.in_ok-number.ensures.number.0 c.in_ok-note.ensures.noted sets c.set.ensures.refused

pub returns-clause-written : goal.returns-clause-written
returns-clause-written c =
    let i = c.self.inside in
    let p : RowPlace = (c.args.table, c.args.key.now) in
    let n = c.in_ok-place.place in
    let cells : Versions Cell = c.reach.new.cells in
    let kept = reached-kept i.places i.rows i.cells i.written c.self.invariant p c.number_of.new.self c.number_of.ensures.grown n c.in_ok-place.ensures.known cells
    c.reach.ensures.blanks in
    let same = reached-seen i.places i.rows i.cells i.written c.self.invariant p c.number_of.new.self c.number_of.ensures.grown n c.in_ok-place.ensures.known cells
    c.reach.ensures.blanks ∙ c.self.view_is in
    let s = c.args.session in
    let row = c.args.row in
    let sets = subst (λ x. OnOk c.set.result (c.set.new.self ≡ record cells { list = set cells.list n x })) c.with.ensures c.set.ensures.set in
    let only = subst (λ (m : MarkedRows). IsOnlyWriterAt s p m.now) (sym same) c.requires in
    let made = write-seen c.number_of.new.self i.rows cells i.written kept s n p c.get-cell.result row c.in_ok-number.number c.in_ok-place.ensures.known
    c.in_ok-reach.ensures.there c.get-cell.ensures c.add.new.self c.set.new.self c.set.result c.in_ok-number.ensures.added c.in_ok-number.ensures.number.1 only
    sets in
    subst (λ (m : MarkedRows). OnOk c.set.result (seen_rows c.number_of.new.self c.add.new.self c.set.new.self ≡ record m { now = wrote s p row m.now })) same made

pub returns-clause-refused : goal.returns-clause-refused
returns-clause-refused c =
    let i = c.self.inside in
    let p : RowPlace = (c.args.table, c.args.key.now) in
    let n = c.in_ok-place.place in
    let cells : Versions Cell = c.reach.new.cells in
    let kept = reached-kept i.places i.rows i.cells i.written c.self.invariant p c.number_of.new.self c.number_of.ensures.grown n c.in_ok-place.ensures.known cells
    c.reach.ensures.blanks in
    let same = reached-seen i.places i.rows i.cells i.written c.self.invariant p c.number_of.new.self c.number_of.ensures.grown n c.in_ok-place.ensures.known cells
    c.reach.ensures.blanks ∙ c.self.view_is in
    let stays = refused-seen c.number_of.new.self i.rows cells i.written kept c.args.session n p c.get-cell.result c.args.row c.in_ok-number.number
    c.in_ok-place.ensures.known c.in_ok-reach.ensures.there c.get-cell.ensures c.add.new.self c.set.new.self c.set.result c.in_ok-number.ensures.added
    c.set.ensures.refused in
    subst (λ (m : MarkedRows). OnErr c.set.result (seen_rows c.number_of.new.self c.add.new.self c.set.new.self ≡ m)) same stays
