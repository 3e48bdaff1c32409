use Rattle.std.proofs.Common.{◌≡◌, ◌+◌, ◌-◌, subst, arith}
use Rattle.known_worlds.specs.declared.moves.Move.TheVariants.{Mark}
use Rattle.known_worlds.proofs.MoveLemmas.{mark-found, stays-send, StaysMarked}
use Rattle.known_worlds.proofs.moves.newest_mark.Goals as goal

pub returns-in-Mark-clause-found : goal.returns-in-Mark-clause-found
returns-in-Mark-clause-found c =
    let path = c.args.path.now in
    let n = c.later.left - 1 in
    let next : c.later.left ≡ n + 1 = omega (arith, c.later-test.true) in
    mark-found path n c.args.end Mark (omega (arith, c.later-test.true, c.later.invariant.few, c.requires)) (omega (arith, c.later-test.true, c.later.invariant.few))
    c.in-Mark.is (subst (λ m. StaysMarked path m c.args.end) next c.later.invariant.stays)

pub later-preserved : goal.later-preserved
later-preserved c =
    let path = c.args.path.now in
    let n = c.later.left - 1 in
    let next : c.later.left ≡ n + 1 = omega (arith, c.later-test.true) in
    record {
      few = omega (arith, c.later.invariant.few);
      stays = stays-send path n c.args.end c.in-Send.field-0 Mark (omega (arith, c.later-test.true, c.later.invariant.few, c.requires))
          c.in-Send.is (subst (λ m. StaysMarked path m c.args.end) next c.later.invariant.stays);
    }
