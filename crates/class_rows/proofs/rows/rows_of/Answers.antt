use Rattle.std.proofs.Common.{◌≡◌, refl, subst, suc, ◌+◌, length, take, arith}
use Rattle.std.proofs.lemmas.Option.{slice_get_read}
use Rattle.different_shows.proofs.Places.{at-among}
use Rattle.class_rows.specs.Telling.{AreRowsOf}
use Rattle.class_rows.proofs.Lists.{take-parts, take-old, take-new, take-all}
use Rattle.class_rows.proofs.Passes.{count-next, count-front, rise-before, take-has, classes-apart}
use Rattle.class_rows.proofs.Putting.{put-rows}
use Rattle.class_rows.proofs.rows.rows_of.Goals as goal

pub put-requires : goal.put-requires
put-requires c n row e =
    let x = c.requires in
    let ps = c.args.passing.now in
    let l = c.loop-place in
    let at = slice_get_read ps (length ps) l.place c.index-passing-place.result refl c.loop-place-test.true c.index-passing-place.is in
    let rows = l.invariant x.0 x.1 x.2 x.3 in
    let few = (rows.each n row e).few in
    let front = count-front ps l.place c.index-passing-place.result at in
    let all = x.3.few in
    omega (arith, few, front, all)

pub loop-place-preserved : goal.loop-place-preserved
loop-place-preserved c kind tables run added =
    let ps = c.args.passing.now in
    let l = c.loop-place in
    let p = c.index-passing-place.result in
    let at = slice_get_read ps (length ps) l.place p refl c.loop-place-test.true c.index-passing-place.is in
    let has = at-among ps l.place p at in
    let next : suc l.place ≡ l.place + 1 = omega arith in
    subst (λ i. AreRowsOf kind tables run c.args.by (take i ps) c.put.new.different c.put.new.rows.items) next
    (put-rows kind tables run c.args.by p (take l.place ps) (take (suc l.place) ps) (added.each p has) (added.told p has)
    (λ q m. take-parts ps l.place p q at m) (λ q m. take-old ps l.place q m) (take-new ps l.place p at) (count-next ps l.place p at)
    (λ q m. rise-before 0 ps l.place p q added.rise at m)
    (λ q m rank x y. classes-apart kind tables run ps added p q has (take-has ps l.place q m) (rise-before 0 ps l.place p q added.rise at m) rank x y)
    l.different c.put.new.different l.rows.items c.put.new.rows.items (l.invariant kind tables run added) c.known.ensures c.in_ok-put.ensures)

pub returns : goal.returns
returns c kind tables run added =
    let ps = c.args.passing.now in
    let l = c.loop-place in (
      l.different,
      subst (λ qs. AreRowsOf kind tables run c.args.by qs l.different l.rows.items)
          (take-all ps l.place (let h = c.loop-place-test.false in omega (arith, h))) (l.invariant kind tables run added),
    )
