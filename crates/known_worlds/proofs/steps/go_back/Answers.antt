use Rattle.std.proofs.Common.{◌≡◌, ◌-◌, ◌∷◌, ◌++◌, [], ◌∙◌, subst, sym, ap, take, get_or, suc, arith}
use Rattle.known_worlds.specs.Paths.{IsAlong}
use Rattle.known_worlds.proofs.AlongLemmas.{goes-back, some-mark, take-last}
use Rattle.known_worlds.proofs.steps.go_back.Goals as goal

pub go_back-requires : goal.go_back-requires
go_back-requires c =
    let ks = c.args.line.now in
    let n = c.later.left - 1 in
    let next : suc n ≡ c.later.left = omega (arith, c.later-test.true) in
    let along : IsAlong (take n ks ++ get_or ks n 0 ∷ []) c.later.world =
    subst (λ js. IsAlong js c.later.world) (ap (λ m. take m ks) (sym next) ∙ take-last ks n 0 (omega (arith, next, c.later.invariant.few))) c.later.invariant.along in
    some-mark (take n ks) (get_or ks n 0) c.later.world along

pub later-preserved : goal.later-preserved
later-preserved c =
    let ks = c.args.line.now in
    let n = c.later.left - 1 in
    let next : suc n ≡ c.later.left = omega (arith, c.later-test.true) in
    let along : IsAlong (take n ks ++ get_or ks n 0 ∷ []) c.later.world =
    subst (λ js. IsAlong js c.later.world) (ap (λ m. take m ks) (sym next) ∙ take-last ks n 0 (omega (arith, next, c.later.invariant.few))) c.later.invariant.along in
    record {
      along = goes-back (take n ks) (get_or ks n 0) c.later.world c.go_back.new.self along c.go_back.ensures.of_spec c.go_back.ensures.whole c.go_back.ensures.marked;
      few = omega (arith, next, c.later.invariant.few);
      more = omega (arith, next, c.later-test.true);
      file = c.go_back.ensures.of_spec ∙ c.later.invariant.file;
      numbers = c.go_back.ensures.numbers ∙ c.later.invariant.numbers;
      told = c.go_back.ensures.told ∙ c.later.invariant.told;
    }
