use Rattle.farm_headline.proofs.HeadlineLemmas.{next-joined}
use Rattle.farm_headline.proofs.headline.with_plan.Goals as goal

pub returns-in-Ok : goal.returns-in-Ok
returns-in-Ok g c =
    let x = c.in-Ok.ensures in
    next-joined c.args.spec.now c.args.plan.now c.args.place c.args.book.now c.in-Ok.next c.joined.result x.0 x.3 c.joined.ensures
