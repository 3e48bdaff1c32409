-- The laws of ranks.
use Rattle.std.specs.Prelude.{◌≡◌, ◌↔◌, ℕ, ◌<◌, List, []}
use Rattle.bound_specs.specs.Spec.{Spec, Queues, line_of, queues_of, ranks}
use Rattle.machine_model.specs.World.{World}
use Rattle.machine_model.specs.Start.{Started, start}
use Rattle.spec_schedules.specs.declared.kind.Kind.{Kind}
use Rattle.spec_schedules.specs.declared.kind.Kind.TheVariants.{Permutations}
use Rattle.spec_schedules.specs.Schedules.{IsOrder, IsRank}
use Rattle.spec_schedules.specs.Ranked.{IsOrderAt}

-- orders of one kind that have one rank are one
abbrev pub RanksAreUnique : Type 0
RanksAreUnique =
    (kind : Kind) (run : Spec) (start : World) (ks ls : List ℕ) (rank : ℕ) → IsOrder kind run.steps (queues_of run) start ks → IsOrder kind run.steps (queues_of run) start ls
    → IsRank (queues_of run) ks rank → IsRank (queues_of run) ls rank → ks ≡ ls

-- and so are those at one rank of a spec, also where it has lines
abbrev pub OrdersAreAlone : Type 0
OrdersAreAlone = (kind : Kind) (run : Spec) (rank : ℕ) (ks ls : List ℕ) → IsOrderAt kind run rank ks → IsOrderAt kind run rank ls → ks ≡ ls

-- steps have one rank
abbrev pub OneRankEach : Type 0
OneRankEach = (queues : Queues) (ks : List ℕ) (first other : ℕ) → IsRank queues ks first → IsRank queues ks other → first ≡ other

-- where the spec starts and has no lines, each rank has its permutation
abbrev pub PermutationsAreRanked : Type 0
PermutationsAreRanked =
    (run : Spec) (w : World) → run.lines ≡ [] → start run ≡ Started w → (rank : ℕ) (ks : List ℕ)
    → IsOrderAt Permutations run rank ks ↔ ((rank < ranks run) × (ks ≡ line_of run rank))
