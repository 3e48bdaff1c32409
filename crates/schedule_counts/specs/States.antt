-- The states in which the orders of a spec end.
use Rattle.std.specs.Prelude.{◌≡◌, ℕ, Bool, true, false, List, [], ◌∷◌, Some, slice_get}
use Rattle.binding_model.specs.declared.tables.Table.{Table}
use Rattle.path_counts.specs.Paths.{Has, AreApart}
use Rattle.bound_specs.specs.Spec.{Spec, queues_of}
use Rattle.machine_model.specs.World.{World}
use Rattle.spec_schedules.specs.declared.kind.Kind.{Kind}
use Rattle.spec_schedules.specs.Schedules.{IsOrder}
use Rattle.spec_schedules.specs.Counted.{AreCounted}
use Rattle.world_graph.specs.Worlds.{IsOver}
use Rattle.world_graph.specs.declared.exploring.ExploreError.TheVariants as explore_error
use Rattle.world_graph.specs.declared.schedules.Final.{Final}
use Rattle.world_graph.specs.declared.schedules.ScheduleError.{ScheduleError}
use Rattle.world_graph.specs.declared.schedules.ScheduleError.TheVariants.{Explore, Count}
use Rattle.spec_schedules.specs.Points.{Point, point_rules}
use Rattle.order_classes.specs.declared.shows.Shows.{Shows}
use Rattle.order_classes.specs.Shows.{shows_in}
use Rattle.schedule_counts.specs.declared.counting.FinalState.{FinalState}
use Rattle.schedule_counts.specs.declared.counting.StatesError.{StatesError}
use Rattle.schedule_counts.specs.declared.counting.StatesError.TheVariants.{TooMany, Memory}

-- each order of the spec ends in one of these states, which counts it, and nothing else is counted there; what a state shows has its number
pub record AreFinalStates (kind : Kind) (tables : List Table) (run : Spec) (start : World) (shown : List Shows) (states : List FinalState) : Type 0 where
  pub orders : ℕ → List (List ℕ)
  pub apart : AreApart states
  pub entries : (f : FinalState) → Has f states → (end : World) × AreCounted kind run start f.count f.first end (orders f.state) × (slice_get shown f.shows ≡ Some (shows_in tables run.sessions end))
  pub some : (ks : List ℕ) → IsOrder kind run.steps (queues_of run) start ks → (f : FinalState) × Has f states × Has ks (orders f.state)
  pub one : (ks : List ℕ) (f h : FinalState) → Has f states → Has h states → Has ks (orders f.state) → Has ks (orders h.state) → f ≡ h

-- no further step may come at the node
pub record IsOverAt (seen : List Point) (end : Final) : Type 0 where
  pub point : Point
  pub at : slice_get seen end.node ≡ Some point
  pub over : IsOver point_rules point

abbrev pub AreOver : List Point → List Final → Type 0
AreOver seen finals = (f : Final) → Has f finals → IsOverAt seen f

-- the state is that of the node, with the number of what it shows
pub record IsStateOf (tables : List Table) (seen : List Point) (shown : List Shows) (end : Final) (state : FinalState) : Type 0 where
  pub node : state.state ≡ end.node
  pub count : state.count ≡ end.count
  pub first : state.first ≡ end.least
  pub shows : (p : Point) → slice_get seen end.node ≡ Some p → slice_get shown state.shows ≡ Some (shows_in tables p.run.sessions p.world)

abbrev pub AreStatesOf : List Table → List Point → List Shows → List Final → List FinalState → Type 0
AreStatesOf tables seen shown [] [] = Unit {0}
AreStatesOf tables seen shown [] (s ∷ ss) = ⊥
AreStatesOf tables seen shown (f ∷ fs) [] = ⊥
AreStatesOf tables seen shown (f ∷ fs) (s ∷ ss) = IsStateOf tables seen shown f s × AreStatesOf tables seen shown fs ss

-- what is answered where there are no states: whether there is no room for more than these that were noted
abbrev pub error_of : ScheduleError → Bool → ℕ → StatesError
error_of (Explore explore_error.TooMany) full noted = TooMany noted
error_of (Explore explore_error.Refusal) true noted = TooMany noted
error_of (Explore explore_error.Refusal) false noted = Memory
error_of (Explore explore_error.Memory) full noted = Memory
error_of (Explore explore_error.Circle) full noted = Memory
error_of (Count e) full noted = Memory
