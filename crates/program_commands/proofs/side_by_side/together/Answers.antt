use Rattle.std.proofs.Common.{sym, subst, All, Vec, Global}
use Rattle.std.proofs.lemmas.List.Elements.{All-append, All-nil}
use Rattle.program_commands.specs.declared.side_by_side.Placed.{Placed}
use Rattle.program_commands.specs.SideBySide.{IsPlaced}
use Rattle.shard_farm.proofs.CrewLemmas.{all_rest}
use Rattle.program_commands.proofs.side_by_side.together.Goals as goal

-- nothing is in the list
pub loop-some-init : goal.loop-some-init
loop-some-init c = λ files level updates specs all. (
  subst (All (IsPlaced files level updates specs)) (sym c.new-placed.ensures.items) (All-nil (IsPlaced files level updates specs)),
  subst (All (λ (some : Vec Placed Global). All (IsPlaced files level updates specs) some.items)) (sym c.into_iter-some-iterator.ensures.into_iter_gives.0) all,
)

pub returns : goal.returns
returns c = λ files level updates specs all. (c.loop-some.invariant files level updates specs all).0

-- those of one more
pub loop-some-preserved : goal.loop-some-preserved
loop-some-preserved c = λ files level updates specs all.
    (let before = c.loop-some.invariant files level updates specs all in
    let next = all_rest (λ some. All (IsPlaced files level updates specs) some.items) _ _ _ c.in-Some.ensures.steps.0 before.1 in
    (subst (All (IsPlaced files level updates specs)) (sym c.in_ok-append.ensures.items) (All-append (IsPlaced files level updates specs) _ _ before.0 next.0), next.1))
