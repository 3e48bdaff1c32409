-- The orders of a spec by the numbers of what they show.
use Rattle.std.specs.Prelude.{◌≡◌, ℕ, ◌+◌, ◌<◌, ◌≤◌, ◌^◌, ◌==◌, cond, List, [], ◌∷◌, Some, slice_get, length}
use Rattle.binding_model.specs.declared.tables.Table.{Table}
use Rattle.path_counts.specs.Paths.{Has, AreApart}
use Rattle.bound_specs.specs.Spec.{Spec, queues_of}
use Rattle.machine_model.specs.World.{World, send_all}
use Rattle.spec_schedules.specs.declared.kind.Kind.{Kind}
use Rattle.spec_schedules.specs.Schedules.{IsOrder, IsRank}
use Rattle.order_classes.specs.declared.shows.Shows.{Shows}
use Rattle.order_classes.specs.Shows.{shows_in}
use Rattle.schedule_counts.specs.declared.counting.FinalState.{FinalState}

-- all counts of the states that show what has this number
abbrev pub count_of : ℕ → List FinalState → ℕ
count_of number [] = 0
count_of number (f ∷ fs) = cond (f.shows == number) (f.count + count_of number fs) (count_of number fs)

-- all counts
abbrev pub total_count : List FinalState → ℕ
total_count [] = 0
total_count (f ∷ fs) = f.count + total_count fs

-- these are different orders of the spec, so many, and each shows this
pub record AreOrdersWith (kind : Kind) (tables : List Table) (run : Spec) (start : World) (shown : List Shows) (number count : ℕ) (orders : List (List ℕ)) : Type 0 where
  pub apart : AreApart orders
  pub long : length orders ≡ count
  pub each : (ks : List ℕ) → Has ks orders → IsOrder kind run.steps (queues_of run) start ks × (slice_get shown number ≡ Some (shows_in tables run.sessions (send_all run.steps start ks)))

-- each order of the spec is among those of one number, as many as the counts with it sum up to, and the least first rank with it is the least of theirs; and all
-- counts have a sum below 2^63
pub record AreClasses (kind : Kind) (tables : List Table) (run : Spec) (start : World) (shown : List Shows) (states : List FinalState) : Type 0 where
  pub orders : ℕ → List (List ℕ)
  pub class : (number : ℕ) → AreOrdersWith kind tables run start shown number (count_of number states) (orders number)
  pub some : (ks : List ℕ) → IsOrder kind run.steps (queues_of run) start ks → (number : ℕ) × Has ks (orders number)
  pub one : (ks : List ℕ) (number other : ℕ) → Has ks (orders number) → Has ks (orders other) → number ≡ other
  pub below : (number : ℕ) (ks : List ℕ) (rank : ℕ) → Has ks (orders number) → IsRank (queues_of run) ks rank → (f : FinalState) × Has f states × (f.shows ≡ number) × (f.first ≤ rank)
  pub met : (f : FinalState) → Has f states → (ks : List ℕ) × Has ks (orders f.shows) × IsRank (queues_of run) ks f.first
  pub few : total_count states < 2 ^ 63
