use Rattle.std.proofs.Common.{◌≡◌, ℕ, ◌<◌, false, List, [], ◌∷◌, get_or, length}
use Rattle.rank_facts.specs.Swap.{quiet_heads}
use Rattle.step_reducer.specs.Reduced.{LeftOf}
use Rattle.step_reducer.proofs.frame.swaps_with.Given as goal

abbrev pub invariant-loop-smaller : goal.invariant-loop-smaller
invariant-loop-smaller l = record {
  made : length l.swaps.items ≡ l.smaller;
  listed : (rest : List (List ℕ)) (ks : List ℕ) → ((a : ℕ) → LeftOf (get_or l.table a []) (get_or l.block.left a 0) (get_or rest a []))
      → (b : ℕ) → b < l.smaller → get_or l.swaps.items b false ≡ quiet_heads l.initial.world.file.run.steps l.initial.world.world (l.step ∷ ks) (get_or rest b []);
  same : l.world ≡ record l.initial.world { level = l.world.level };
}
