-- The rows, the locks and the sessions of a world by the numbers of a spec, now and at marks.
use Rattle.std.specs.Prelude.{◌≡◌, ℕ, ◌<◌, ◌≤◌, List, [], ◌∷◌, length, map, get_or, All}
use Rattle.std.specs.List.{Contains}
use Rattle.bound_statements.specs.declared.statement.Bound.{Bound}
use Rattle.lock_modes.specs.declared.resource.Resource.{Resource}
use Rattle.lock_queues.specs.LockTable.{Locks}
use Rattle.row_tables.specs.Layers.{Layers}
use Rattle.numbered_specs.specs.Numbers.{asked_by, IsPlan, Numbers, plans_of}
use Rattle.marked_modes.specs.declared.row.TheConstants.{MAX_HOLDERS}
use Rattle.marked_locks.specs.Queued.{MarkedTable, pictured}
use Rattle.marked_rows.specs.Cells.{MarkedRows}
use Rattle.session_steps.specs.declared.point.Origin.{Origin}
use Rattle.session_steps.specs.declared.point.Origin.TheVariants.{Setup, Step}
use Rattle.session_steps.specs.Stage.{Member, Staged}
use Rattle.events.specs.declared.event.Event.{Event}
use Rattle.marked_worlds.specs.Members.{MarkedSessions}
use Rattle.marked_worlds.specs.declared.seen_stages.SeenStage.{SeenStage}

-- the numbers, the stage now, the stages at the marks that stand, the newest first, the outcomes that were told, and the stages that were noted, in the
-- order in which they were
pub record MarkedStages : Type 0 where
  pub numbers : Numbers
  pub now : Staged
  pub marked : List Staged
  pub told : List (List (List Event))
  pub seen : List Staged

abbrev pub staged_of : Layers → Locks → List Member → Staged
staged_of l t ms = record { store = l; locks = t; members = ms }

-- the stages at marks
abbrev pub stages_of : List Layers → List Locks → List (List Member) → List Staged
stages_of [] tables lists = []
stages_of (l ∷ ls) [] lists = []
stages_of (l ∷ ls) (t ∷ ts) [] = []
stages_of (l ∷ ls) (t ∷ ts) (ms ∷ lists) = staged_of l t ms ∷ stages_of ls ts lists

-- a stage that was noted, by the resources and the sessions that were
abbrev pub stage_seen : List Resource → List (List Member) → SeenStage → Staged
stage_seen rs lists s = staged_of s.rows (pictured rs s.locks) (get_or lists s.sessions [])

abbrev pub marked_stages : Numbers → MarkedRows → MarkedTable → MarkedSessions → List SeenStage → MarkedStages
marked_stages numbers rows locks members noted = record {
  numbers = numbers;
  now = staged_of rows.now locks.now members.list;
  marked = stages_of rows.marked locks.marked members.marked;
  told = members.told;
  seen = map (stage_seen locks.resources members.seen) noted;
}

-- ---- what no step changes

-- the numbers, the stages at marks, the outcomes that were told, the stages that were noted, and how many sessions there are
pub record Past : Type 0 where
  pub numbers : Numbers
  pub marked : List Staged
  pub told : List (List (List Event))
  pub seen : List Staged
  pub count : ℕ

abbrev pub past_of : MarkedStages → Past
past_of s = record { numbers = s.numbers; marked = s.marked; told = s.told; seen = s.seen; count = length s.now.members }

-- a statement of a setup asks only for resources that have numbers, and that of a step for what the plan at its place says
abbrev pub IsKnown : Numbers → Origin → ℕ → Bound → Type 0
IsKnown numbers Setup place st = (r : Resource) → Contains (asked_by st) r → Contains numbers.resources r
IsKnown numbers (Step k) place st = IsPlan numbers.resources st (get_or (plans_of numbers.plans k) place [])

-- ---- what is kept

-- there are as many of each, and no more sessions than may hold modes
abbrev pub AreAlike : List Layers → List Locks → List (List Member) → Type 0
AreAlike [] [] [] = Unit {0}
AreAlike [] [] (ms ∷ lists) = ⊥
AreAlike [] (t ∷ ts) lists = ⊥
AreAlike (l ∷ ls) [] lists = ⊥
AreAlike (l ∷ ls) (t ∷ ts) [] = ⊥
AreAlike (l ∷ ls) (t ∷ ts) (ms ∷ lists) = (length ms ≤ MAX_HOLDERS) × AreAlike ls ts lists

-- its sessions are among those that were noted
abbrev pub HasSessions : List (List Member) → SeenStage → Type 0
HasSessions lists s = s.sessions < length lists

pub record IsKept (numbers : Numbers) (rows : MarkedRows) (locks : MarkedTable) (members : MarkedSessions) (noted : List SeenStage) : Type 0 where
  pub resources : locks.resources ≡ numbers.resources
  pub few : length members.list ≤ MAX_HOLDERS
  pub marked : AreAlike rows.marked locks.marked members.marked
  pub seen : All (HasSessions members.seen) noted
