use Rattle.std.proofs.Common.{◌≡◌, Bool, ℕ, ◌<◌, ◌⊎◌, length}
use Rattle.bound_specs.specs.Spec.{SpecFile}
use Rattle.step_reducer.specs.Walks.{IsStack, HasParted}
use Rattle.step_reducer.proofs.stack.Stack.go_back.Given as goal

abbrev pub invariant-shared : goal.invariant-shared
invariant-shared l = record {
  stack : (reduce : Bool) (file : SpecFile) (last end : ℕ) → l.at < end → IsStack reduce file last end l.initial.self
      → IsStack reduce file last end l.self × ((l.self.top.block ≡ l.initial.self.top.block) ⊎ HasParted last l.at l.initial.self.top.block l.self.top.block);
  told : l.self.told ≡ l.initial.self.told;
}

abbrev pub decreases-shared : goal.decreases-shared
decreases-shared l = length l.self.below
