use Rattle.std.proofs.Common.{◌≡◌, refl, subst, suc, ◌+◌, length, arith}
use Rattle.std.proofs.lemmas.Option.{slice_get_read}
use Rattle.class_rows.proofs.Passes.{drop-all}
use Rattle.class_commands.proofs.LevelLemmas.{GoesOn, all-only, one-row}
use Rattle.class_commands.proofs.levels.only_of.Goals as goal

pub loop-place-preserved : goal.loop-place-preserved
loop-place-preserved c known are =
    let rows = c.args.rows.now in
    let l = c.loop-place in
    let row = c.index-rows-place.result in
    let at = slice_get_read rows (length rows) l.place row refl c.loop-place-test.true c.index-rows-place.is in
    let next : suc l.place ≡ l.place + 1 = omega arith in
    subst (λ i. GoesOn known rows i c.push_unless.new.only.items) next
    (one-row known c.args.others.now are rows l.place row l.only.items c.push_unless.new.only.items c.in_ok-is_known.is_known c.in_ok-push_unless.ensures at
    (l.invariant known are) c.in_ok-is_known.ensures)

pub returns : goal.returns
returns c known are =
    let rows = c.args.rows.now in
    let l = c.loop-place in
    all-only known rows l.place l.only.items (l.invariant known are) (drop-all rows l.place c.loop-place-test.false)
