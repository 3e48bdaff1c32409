use Rattle.std.proofs.Common.{refl, ℕ, List, [], ◌∷◌, inl, inr}
use Rattle.bound_specs.specs.Spec.{Step}
use Rattle.machine_model.specs.World.{World, send}
use Rattle.spec_schedules.specs.declared.kind.Kind.TheVariants.{Permutations}
use Rattle.spec_schedules.specs.Schedules.{EachMayCome}
use Rattle.spec_schedules.proofs.laws.schedules_and_permutations.Goals as goal

each-permutation : (steps : List Step) (w : World) (ks : List ℕ) → EachMayCome Permutations steps w ks
each-permutation steps w [] = tt
each-permutation steps w (k ∷ ks) = (refl, each-permutation steps (send steps w k) ks)

pub returns-clause-undropped : goal.returns-clause-undropped
returns-clause-undropped c = λ run start ks h none. record {
  known = h.known;
  in_turn = h.in_turn;
  each = none;
  longest = λ i lt. elim (h.longest i lt) [ inl e ↦ inl e | inr f ↦ absurd (cc) ];
}

pub returns-clause-whole : goal.returns-clause-whole
returns-clause-whole c = λ run start ks h all. (
  record {
    known = h.known;
    in_turn = h.in_turn;
    each = each-permutation run.steps start ks;
    longest = λ i lt. inl (all i lt);
  },
  h.each,
)
