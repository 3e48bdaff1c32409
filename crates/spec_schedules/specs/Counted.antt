-- Orders of a spec, counted by the worlds in which they end.
use Rattle.std.specs.Prelude.{◌≡◌, ℕ, ◌≤◌, List, Some, slice_get, length}
use Rattle.path_counts.specs.Paths.{Has, AreApart}
use Rattle.bound_specs.specs.Spec.{Spec, queues_of}
use Rattle.machine_model.specs.World.{World, send_all}
use Rattle.world_graph.specs.declared.schedules.Final.{Final}
use Rattle.spec_schedules.specs.declared.kind.Kind.{Kind}
use Rattle.spec_schedules.specs.Schedules.{IsOrder, IsRank}
use Rattle.spec_schedules.specs.Points.{Point}

-- these are different orders of the spec that end in one world: so many, with this least rank
pub record AreCounted (kind : Kind) (run : Spec) (start : World) (count least : ℕ) (end : World) (orders : List (List ℕ)) : Type 0 where
  pub apart : AreApart orders
  pub long : length orders ≡ count
  pub each : (ks : List ℕ) → Has ks orders → IsOrder kind run.steps (queues_of run) start ks × (send_all run.steps start ks ≡ end)
  pub below : (ks : List ℕ) (rank : ℕ) → Has ks orders → IsRank (queues_of run) ks rank → least ≤ rank
  pub met : (ks : List ℕ) × Has ks orders × IsRank (queues_of run) ks least

-- each order of the spec is counted in one of these entries, and nothing else is; more entries than one may have one world
pub record AreAllCounted (kind : Kind) (run : Spec) (start : World) (seen : List Point) (finals : List Final) : Type 0 where
  pub orders : ℕ → List (List ℕ)
  pub entries : (f : Final) → Has f finals → (p : Point) × (slice_get seen f.node ≡ Some p) × AreCounted kind run start f.count f.least p.world (orders f.node)
  pub some : (ks : List ℕ) → IsOrder kind run.steps (queues_of run) start ks → (f : Final) × Has f finals × Has ks (orders f.node)
  pub one : (ks : List ℕ) (f h : Final) → Has f finals → Has h finals → Has ks (orders f.node) → Has ks (orders h.node) → f ≡ h
  pub apart : AreApart finals
