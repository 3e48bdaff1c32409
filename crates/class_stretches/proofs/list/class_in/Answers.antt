use Rattle.std.proofs.Common.{sym}
use Rattle.class_stretches.proofs.Places.{place-tells, none-past}
use Rattle.class_stretches.proofs.list.class_in.Goals as goal

pub returns-then-place-list : goal.returns-then-place-list
returns-then-place-list c =
    let place = c.place_of-place in
    sym (place-tells 0 c.args.list.now place.result c.args.rank place.ensures.before c.if-place-list.true (place.ensures.behind c.if-place-list.true))

pub returns : goal.returns
returns c = let place = c.place_of-place in sym (none-past c.args.list.now place.result c.args.rank place.ensures.before c.if-place-list.false)
