-- Where the steps of a spec have led, as a world of a graph: letters are sessions.
use Rattle.std.specs.Prelude.{ℕ, ◌&&◌, Bool, true, false, List, [], ◌∷◌, length, get_or, set}
use Rattle.perm_ranks.specs.Counting.{words_before}
use Rattle.bound_specs.specs.Spec.{Spec, Queues, counts_of, queues_of}
use Rattle.machine_model.specs.World.{World, send}
use Rattle.world_graph.specs.Worlds.{Rules}
use Rattle.spec_schedules.specs.declared.kind.Kind.{Kind}
use Rattle.spec_schedules.specs.Schedules.{may_come}

-- a world of a spec's machine, with what is still to be sent: for each session its step numbers, in order
pub record Point : Type 0 where
  pub kind : Kind
  pub run : Spec
  pub left : Queues
  pub world : World

-- the start of a spec
abbrev pub start_point : Kind → Spec → World → Point
start_point kind run start = record { kind = kind; run = run; left = queues_of run; world = start }

abbrev pub is_some_left : List ℕ → Bool
is_some_left [] = false
is_some_left (k ∷ ks) = true

-- the session's next step is sent, if one is left
abbrev pub point_with : Point → ℕ → List ℕ → Point
point_with p i [] = p
point_with p i (k ∷ ks) = record { kind = p.kind; run = p.run; left = set p.left i ks; world = send p.run.steps p.world k }

-- a session is enabled where a step of it is left and may come
abbrev pub point_rules : Rules Point
point_rules = record {
  can = λ p i. is_some_left (get_or p.left i []) && may_come p.kind p.world i;
  next = λ p i. point_with p i (get_or p.left i []);
  offset = λ p i. length (words_before (counts_of p.left) i);
}
