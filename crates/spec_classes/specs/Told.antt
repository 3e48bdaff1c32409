-- Orders by the numbers of what they show. No public clause cites this module.
use Rattle.std.specs.Prelude.{◌≡◌, ℕ, ◌<◌, ◌≤◌, ◌^◌, List, Some, length, slice_get}
use Rattle.path_counts.specs.Paths.{Has}
use Rattle.binding_model.specs.declared.tables.Table.{Table}
use Rattle.bound_specs.specs.Spec.{Spec}
use Rattle.spec_schedules.specs.declared.kind.Kind.{Kind}
use Rattle.order_classes.specs.declared.shows.Shows.{Shows}
use Rattle.order_classes.specs.Numbers.{IsNumberOf}
use Rattle.schedule_counts.specs.declared.counting.FinalState.{FinalState}
use Rattle.schedule_counts.specs.Classes.{count_of, total_count}
use Rattle.spec_classes.specs.Classes.{ShowsAt}

-- the state has an order of its first rank, which shows what its number says
pub record IsMet (kind : Kind) (tables : List Table) (run : Spec) (shown : List Shows) (f : FinalState) : Type 0 where
  pub shows : Shows
  pub at : slice_get shown f.shows ≡ Some shows
  pub first : ShowsAt kind tables run f.first shows
  pub some : 0 < f.count

-- a rank that shows this is counted in a state that does, whose first rank is no greater
pub record IsCountedIn (shown : List Shows) (states : List FinalState) (rank : ℕ) (s : Shows) : Type 0 where
  pub state : FinalState
  pub inside : Has state states
  pub at : slice_get shown state.shows ≡ Some s
  pub below : state.first ≤ rank

-- the states tell of all orders: of those that show something as many as the counts with its number sum up to
pub record AreTold (kind : Kind) (tables : List Table) (run : Spec) (shown : List Shows) (states : List FinalState) : Type 0 where
  pub numbers : (n : ℕ) (s : Shows) → slice_get shown n ≡ Some s → IsNumberOf (λ rank. ShowsAt kind tables run rank s) (count_of n states)
  pub some : (rank : ℕ) (s : Shows) → ShowsAt kind tables run rank s → IsCountedIn shown states rank s
  pub met : (f : FinalState) → Has f states → IsMet kind tables run shown f
  pub few : total_count states < 2 ^ 63

-- ---- of the lines of a spec

-- the state is that of the line of this rank alone
pub record IsOfLine (tables : List Table) (run : Spec) (kind : Kind) (shown : List Shows) (rank : ℕ) (f : FinalState) : Type 0 where
  pub shows : Shows
  pub at : slice_get shown f.shows ≡ Some shows
  pub first : f.first ≡ rank
  pub count : f.count ≡ 1
  pub does : ShowsAt kind tables run rank shows

-- of the first lines, each in its place
pub record AreOfLines (tables : List Table) (run : Spec) (kind : Kind) (shown : List Shows) (n : ℕ) (states : List FinalState) : Type 0 where
  pub long : length states ≡ n
  pub each : (rank : ℕ) (f : FinalState) → slice_get states rank ≡ Some f → IsOfLine tables run kind shown rank f
