use Rattle.class_stretches.proofs.Places.{place-stretch, ends-before}
use Rattle.class_stretches.proofs.list.stretch_in.Goals as goal
use Rattle.std.proofs.Common.{arith}

pub returns-then-place-list-clause-found : goal.returns-then-place-list-clause-found
returns-then-place-list-clause-found c =
    let place = c.place_of-place in
    place-stretch c.args.list.now place.result c.args.rank c.requires place.ensures.before c.if-place-list.true (place.ensures.behind c.if-place-list.true)

pub returns-clause-past : goal.returns-clause-past
returns-clause-past c =
    let place = c.place_of-place in
    λ e. ends-before 0 c.args.list.now place.result c.args.rank (omega arith) place.ensures.before (omega (arith, c.if-place-list.false))
