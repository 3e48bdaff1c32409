use Rattle.std.proofs.Common.{◌≡◌, ◌+◌, sym, ap, ◌∙◌, subst, ◌++◌, ◌∷◌, [], take, Some}
use Rattle.std.proofs.lemmas.List.{take_more}
use Rattle.std.specs.List.{AllZip}
use Rattle.accepted_outputs.specs.Judging.{IsComparison, IsFirstDifference}
use Rattle.accepted_outputs.proofs.Places.{there-is, none-equal, taken-there, zip-push}
use Rattle.accepted_outputs.proofs.judging.judge.Goals as goal

-- this one is equal, and those before it are not
pub returns-in-None : goal.returns-in-None
returns-in-None c =
    let other = c.index-accepted-index.result in
    let equal : c.args.report.now ≡ other = subst (IsComparison c.args.report.now other) c.in-None.is c.first_difference.ensures in (
      there-is c.args.accepted.now c.loop-index.index other c.loop-index-test.true ∙ ap (λ r. Some r) (sym c.index-accepted-index.is ∙ sym equal),
      λ n lt e. none-equal c.args.report.now (take c.loop-index.index c.args.accepted.now) c.loop-index.places.items c.loop-index.invariant n
          (taken-there c.args.accepted.now c.loop-index.index n lt ∙ e),
    )

pub loop-index-preserved : goal.loop-index-preserved
loop-index-preserved c =
    let report = c.args.report.now in
    let other = c.index-accepted-index.result in
    let earlier = take c.loop-index.index c.args.accepted.now in
    let differs : IsFirstDifference report other c.in-Some.place = subst (IsComparison report other) c.in-Some.is c.first_difference.ensures in
    let more = take_more c.args.accepted.now c.loop-index.index other c.loop-index-test.true ∙ ap (λ r. earlier ++ r ∷ []) (sym c.index-accepted-index.is) in
    subst (AllZip (IsFirstDifference report) (take (c.loop-index.index + 1) c.args.accepted.now)) (sym c.in_ok-push-in-Some.ensures.items)
    (subst (λ front. AllZip (IsFirstDifference report) front (c.loop-index.places.items ++ c.in-Some.place ∷ [])) (sym more)
    (zip-push (IsFirstDifference report) earlier c.loop-index.places.items other c.in-Some.place c.loop-index.invariant differs))
