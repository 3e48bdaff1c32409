-- Sessions as they are kept: what each was told, and beside it the rest.
use Rattle.std.specs.Prelude.{◌≡◌, List, [], ◌∷◌, ◌++◌, length, map, All, Option, None}
use Rattle.std.specs.List.{AllZip}
use Rattle.event_tree.specs.Lists.{HasNode, list_of}
use Rattle.events.specs.declared.event.Event.{Event}
use Rattle.machine_model.specs.declared.status.Status.{Status}
use Rattle.machine_model.specs.declared.status.Status.TheVariants.{Outside}
use Rattle.session_steps.specs.declared.point.Rest.{Rest}
use Rattle.session_steps.specs.Stage.{Member}
use Rattle.marked_lists.specs.Versions.{Versions}
use Rattle.marked_logs.specs.Logs.{Logs}
use Rattle.marked_worlds.specs.declared.members.StatusAndRest.{StatusAndRest}
use Rattle.marked_worlds.specs.declared.seen.SeenSessions.{SeenSessions}
use Rattle.marked_worlds.specs.declared.told.ToldOutcome.{ToldOutcome}
use Rattle.marked_worlds.specs.Told.{AreTold, outcomes_of}

-- the sessions now and at the marks that stand, the newest first, the outcomes that were told of them, in the order in which they were told first, and
-- the sessions as they were noted, in the order in which they were
pub record MarkedSessions : Type 0 where
  pub list : List Member
  pub marked : List (List Member)
  pub told : List (List (List Event))
  pub seen : List (List Member)

-- ---- a session that is changed

-- it is told of these events
abbrev pub told_all : Member → List Event → Member
told_all m es = record { state = record { status = m.state.status; transcript = m.state.transcript ++ es }; rest = m.rest }

-- it was told nothing
abbrev pub silenced : Member → Member
silenced m = record { state = record { status = m.state.status; transcript = [] }; rest = m.rest }

abbrev pub with_status : Member → Status → Member
with_status m status = record { state = record { status = status; transcript = m.state.transcript }; rest = m.rest }

abbrev pub with_rest : Member → Option Rest → Member
with_rest m rest = record { state = m.state; rest = rest }

-- ---- how sessions are kept

abbrev pub no_kept : StatusAndRest
no_kept = record { status = Outside; rest = None }

abbrev pub member_of : List Event → StatusAndRest → Member
member_of told k = record { state = record { status = k.status; transcript = told }; rest = k.rest }

abbrev pub members_of : List (List Event) → List StatusAndRest → List Member
members_of [] ks = []
members_of (told ∷ logs) [] = []
members_of (told ∷ logs) (k ∷ ks) = member_of told k ∷ members_of logs ks

-- the sessions at marks
abbrev pub marked_of : List (List (List Event)) → List (List StatusAndRest) → List (List Member)
marked_of [] marked = []
marked_of (logs ∷ more) [] = []
marked_of (logs ∷ more) (ks ∷ marked) = members_of logs ks ∷ marked_of more marked

-- the sessions that were noted, by the lists of the tree
abbrev pub sessions_seen : List (List Event) → SeenSessions → List Member
sessions_seen lists s = members_of (map (list_of lists) s.nodes.items) s.kept.items

abbrev pub sessions_of : Logs Event → Versions StatusAndRest → List ToldOutcome → List SeenSessions → MarkedSessions
sessions_of logs kept outcomes noted = record {
  list = members_of logs.now kept.list;
  marked = marked_of logs.marked kept.marked;
  told = outcomes_of outcomes;
  seen = map (sessions_seen logs.lists) noted;
}

-- each session has both parts
abbrev pub IsWhole : List (List Event) → List StatusAndRest → Type 0
IsWhole logs ks = length logs ≡ length ks

-- so it is now and at each mark
pub record AreWhole (logs : Logs Event) (kept : Versions StatusAndRest) : Type 0 where
  pub now : IsWhole logs.now kept.list
  pub marked : AllZip IsWhole logs.marked kept.marked

-- what was noted has nodes of the tree
abbrev pub IsSeen : List (List Event) → SeenSessions → Type 0
IsSeen lists s = All (HasNode lists) s.nodes.items

-- and each outcome that is kept was told, by its nodes
pub record AreKept (logs : Logs Event) (kept : Versions StatusAndRest) (outcomes : List ToldOutcome) (noted : List SeenSessions) : Type 0 where
  pub whole : AreWhole logs kept
  pub told : AreTold logs.lists outcomes
  pub seen : All (IsSeen logs.lists) noted
