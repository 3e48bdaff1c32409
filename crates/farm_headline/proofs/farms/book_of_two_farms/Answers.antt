use Rattle.farm_headline.proofs.FarmLemmas.{both-joined}
use Rattle.farm_headline.proofs.farms.book_of_two_farms.Goals as goal

-- by the laws on the books of farms and on joins
pub returns : goal.returns
returns g c =
    let laws = c.runs_decide.ensures in
    both-joined c.args.spec.now c.args.first.now c.args.second.now laws.farm laws.joins c.in-Ok.book c.in-Ok-farmed.book c.joined.result c.in-Ok.ensures
    c.in-Ok-farmed.ensures
    c.joined.ensures
