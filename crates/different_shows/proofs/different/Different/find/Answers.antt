use Rattle.std.proofs.Common.{◌≡◌, ◌∙◌, subst, Some, slice_get}
use Rattle.std.specs.Option.{MatchOption}
use Rattle.lock_queues.specs.Reasons.{Among}
use Rattle.different_shows.proofs.Numbered.{found-so}
use Rattle.different_shows.proofs.different.Different.find.Goals as goal

pub returns : goal.returns
returns c =
    let s = c.args.shows.now in
    subst (λ all. MatchOption c.copied.result (Among s all → ⊥) (λ n. slice_get all n ≡ Some s)) c.self.view_is
    (found-so c.self.inside.shows.items c.self.inside.numbers.entries s c.copied.result c.self.invariant (c.copied.ensures ∙ c.get.ensures.value))
