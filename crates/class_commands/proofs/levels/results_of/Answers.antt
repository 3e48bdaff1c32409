use Rattle.std.proofs.Common.{◌≡◌, refl, subst, suc, ◌+◌, length, take, arith}
use Rattle.std.proofs.lemmas.Option.{slice_get_read}
use Rattle.different_shows.specs.Different.{HasNumber}
use Rattle.class_rows.proofs.Lists.{take-all}
use Rattle.class_commands.specs.LevelParts.{AreResultsOf}
use Rattle.class_commands.proofs.LevelLemmas.{one-more}
use Rattle.class_commands.proofs.levels.results_of.Goals as goal

pub loop-place-preserved : goal.loop-place-preserved
loop-place-preserved c =
    let rows = c.args.rows.now in
    let l = c.loop-place in
    let row = c.index-rows-place.result in
    let at = slice_get_read rows (length rows) l.place row refl c.loop-place-test.true c.index-rows-place.is in
    let number = c.in_ok-number.field-0 in
    let has = subst (λ a. HasNumber l.results c.number.new.self a number) c.in_ok-answers.ensures c.in_ok-number.ensures.ok in
    let next : suc l.place ≡ l.place + 1 = omega arith in
    subst (λ i. AreResultsOf (take i rows) c.number.new.self) next (one-more rows l.place row at l.results c.number.new.self l.invariant number has)

pub returns : goal.returns
returns c =
    let rows = c.args.rows.now in
    let l = c.loop-place in
    subst (λ rs. AreResultsOf rs l.results) (take-all rows l.place c.loop-place-test.false) l.invariant
