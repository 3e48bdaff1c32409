-- The orders of a spec by their ranks.
use Rattle.std.specs.Prelude.{◌≡◌, ℕ, List, [], ◌∷◌, Some, slice_get}
use Rattle.bound_specs.specs.Spec.{Spec, queues_of}
use Rattle.machine_model.specs.World.{World}
use Rattle.machine_model.specs.Start.{Started, start}
use Rattle.spec_schedules.specs.declared.kind.Kind.{Kind}
use Rattle.spec_schedules.specs.Schedules.{IsOrder, IsRank}

-- a spec with permutation lines has these alone, whatever the kind; another one has the orders of the kind from its start on, none where it does not start
abbrev pub IsOrderBy : Kind → Spec → List (List ℕ) → ℕ → List ℕ → Type 0
IsOrderBy kind run [] rank ks =
    (w : World) × (start run ≡ Started w) × IsOrder kind run.steps (queues_of run) w ks × IsRank (queues_of run) ks rank
IsOrderBy kind run (l ∷ ls) rank ks = slice_get (l ∷ ls) rank ≡ Some ks

-- the steps are the order of this rank
abbrev pub IsOrderAt : Kind → Spec → ℕ → List ℕ → Type 0
IsOrderAt kind run rank ks = IsOrderBy kind run run.lines rank ks
