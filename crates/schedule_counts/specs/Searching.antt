-- A search of the worlds of a spec, by what its calls see.
use Rattle.std.specs.Prelude.{◌≡◌, ℕ, ◌<◌, ◌≤◌, Bool, List, [], ◌∷◌, Option, Some, length, map, reverse, get_or, set, slice_get}
use Rattle.path_counts.specs.Paths.{Has}
use Rattle.bound_specs.specs.Spec.{Spec, SpecFile, Queues, counts_of}
use Rattle.bound_specs.specs.Walking.{queues_at}
use Rattle.binding_model.specs.declared.tables.Table.{Table}
use Rattle.machine_model.specs.World.{World, blank}
use Rattle.world_graph.specs.Worlds.{IsOver}
use Rattle.spec_schedules.specs.declared.kind.Kind.{Kind}
use Rattle.spec_schedules.specs.Points.{Point, point_rules}
use Rattle.marked_worlds.specs.Worlds.{MarkedRunning}
use Rattle.order_classes.specs.declared.shows.Shows.{Shows}
use Rattle.order_classes.specs.Shows.{shows_in}
use Rattle.schedule_counts.specs.declared.place.Place.{Place}
use Rattle.schedule_counts.specs.declared.search.Noted.{Noted}

-- a spec with its tables, the point now, the points at the marks that stand, the newest first, the points that were noted, the worlds that the machine noted,
-- what was shown, and whether a step was refused and the search has not gone back since
pub record Searched : Type 0 where
  pub file : SpecFile
  pub tables : List Table
  pub point : Point
  pub marked : List Point
  pub seen : List Point
  pub worlds : List World
  pub shown : List Shows
  pub spent : Bool

-- what is still to be sent where each session's steps are from this number on
abbrev pub left_at : Spec → List ℕ → Queues
left_at run next = queues_at 0 run.sessions next run.steps

abbrev pub point_at : Kind → Spec → List ℕ → World → Point
point_at kind run next w = record { kind = kind; run = run; left = left_at run next; world = w }

-- the worlds at marks, each with what was still to be sent there
abbrev pub points_at : Kind → Spec → List World → List Place → List Point
points_at kind run [] places = []
points_at kind run (w ∷ ws) [] = []
points_at kind run (w ∷ ws) (p ∷ ps) = point_at kind run p.next w ∷ points_at kind run ws ps

abbrev pub point_noted : Kind → Spec → List World → Noted → Point
point_noted kind run worlds n = point_at kind run n.next (get_or worlds n.world blank)

abbrev pub searched : MarkedRunning → List Table → Kind → Place → List Place → List Noted → List Shows → Searched
searched m tables kind place marks noted shown = record {
  file = m.file;
  tables = tables;
  point = point_at kind m.file.run place.next m.world;
  marked = points_at kind m.file.run m.marked (reverse marks);
  seen = map (point_noted kind m.file.run m.seen) noted;
  worlds = m.seen;
  shown = shown;
  spent = m.spent;
}

-- the letters of a place are the steps that are left there
pub record IsPlaceOf (run : Spec) (p : Place) : Type 0 where
  pub counts : p.block.left ≡ counts_of (left_at run p.next)
  pub each : length p.next ≡ 8

-- the session's next step is taken
pub record IsTaken (run : Spec) (old new : Place) (session step : ℕ) : Type 0 where
  pub rest : List ℕ
  pub queue : get_or (left_at run old.next) session [] ≡ step ∷ rest
  pub left : left_at run new.next ≡ set (left_at run old.next) session rest

-- what a point's world shows has this number
abbrev pub HasShows : List Table → List Shows → Point → Option ℕ → Type 0
HasShows tables shown p number = (s : ℕ) × (number ≡ Some s) × (slice_get shown s ≡ Some (shows_in tables p.run.sessions p.world))

-- where no further step may come, what the point now shows has this number
abbrev pub IsShownAt : Searched → Option ℕ → Type 0
IsShownAt s number = IsOver point_rules s.point → HasShows s.tables s.shown s.point number

-- what is noted is one of the machine's worlds, with the number of what it shows where no further step may come
pub record IsNotedIn (tables : List Table) (kind : Kind) (run : Spec) (worlds : List World) (shown : List Shows) (n : Noted) : Type 0 where
  pub inside : n.world < length worlds
  pub shows : IsOver point_rules (point_noted kind run worlds n) → HasShows tables shown (point_noted kind run worlds n) n.shows

-- what is kept
pub record IsKept (m : MarkedRunning) (tables : List Table) (kind : Kind) (place : Place) (marks : List Place) (noted : List Noted) (shown : List Shows) : Type 0 where
  pub sessions : m.file.run.sessions ≤ 8
  pub here : IsPlaceOf m.file.run place
  pub at_marks : (p : Place) → Has p marks → IsPlaceOf m.file.run p
  pub worlds : (n : Noted) → Has n noted → IsNotedIn tables kind m.file.run m.seen shown n
