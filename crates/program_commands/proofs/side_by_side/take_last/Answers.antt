use Rattle.std.proofs.Common.{sym, subst, All, [], ◌∷◌, get_or, is_ok}
use Rattle.program_commands.specs.Testing.{IsFoundOf}
use Rattle.program_commands.specs.SideBySide.{IsPlaced}
use Rattle.program_commands.proofs.SideLemmas.{all-front, all-last, all-more}
use Rattle.program_commands.proofs.side_by_side.take_last.Goals as goal

-- the last is of this place
pub returns-then-last-place-clause-taken : goal.returns-then-last-place-clause-taken
returns-then-last-place-clause-taken c = λ files level updates specs all.
    (let kept = subst (All (IsPlaced files level updates specs)) c.in_ok-last.ensures.items all in
    subst (λ place. IsFoundOf files level updates (get_or specs place []) c.in_ok-last.last.found.finding) c.if-last-place.true
    (all-last (IsPlaced files level updates specs) c.pop.new.self.items c.in_ok-last.last kept))

pub returns-then-last-place-clause-left : goal.returns-then-last-place-clause-left
returns-then-last-place-clause-left c = λ files level updates specs all.
    all-front (IsPlaced files level updates specs) c.pop.new.self.items (c.in_ok-last.last ∷ []) (subst (All (IsPlaced files level updates specs)) c.in_ok-last.ensures.items all)

-- it is put back
pub returns-clause-left : goal.returns-clause-left
returns-clause-left c = λ files level updates specs all.
    (let kept = subst (All (IsPlaced files level updates specs)) c.in_ok-last.ensures.items all in
    let last = c.in_ok-last.last in
    subst (All (IsPlaced files level updates specs)) (sym c.push-back.ensures.items)
    (all-more (IsPlaced files level updates specs) (is_ok c.push-back.result) c.pop.new.self.items last
    (all-front (IsPlaced files level updates specs) c.pop.new.self.items (last ∷ []) kept) (all-last (IsPlaced files level updates specs) c.pop.new.self.items last kept)))
