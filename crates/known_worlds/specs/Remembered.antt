-- What is remembered of worlds that were noted. No public clause cites this module.
use Rattle.std.specs.Prelude.{◌≡◌, ℕ, Bool, List, [], ◌∷◌, Option, Some, None, IfSome, get_or, reverse, slice_get}
use Rattle.bound_specs.specs.Spec.{no_step}
use Rattle.machine_model.specs.World.{World, outcome_of, send}
use Rattle.machine_model.specs.Outcome.{IsOutcomeOf}
use Rattle.rank_facts.specs.Quiet.{is_quiet}
use Rattle.known_worlds.specs.Late.{LateRunning}
use Rattle.known_worlds.specs.declared.graph.Edge.{Edge}
use Rattle.known_worlds.specs.declared.graph.ToldWorld.{ToldWorld}
use Rattle.known_worlds.specs.declared.graph.PairAnswer.{PairAnswer}
use Rattle.known_worlds.specs.declared.graph.Graph.{Graph}

-- the number, if there is one, is that of the world
abbrev pub IsNoted : List World → Option ℕ → World → Type 0
IsNoted seen None w = Unit {0}
IsNoted seen (Some n) w = slice_get seen n ≡ Some w

-- the numbers, as far as there are any, are those of the worlds
abbrev pub AreNoted : List World → List (Option ℕ) → List World → Type 0
AreNoted seen [] [] = Unit {0}
AreNoted seen (n ∷ ns) (w ∷ ws) = IsNoted seen n w × AreNoted seen ns ws
AreNoted seen [] (w ∷ ws) = ⊥
AreNoted seen (n ∷ ns) [] = ⊥

-- the number is that of an outcome of the world
abbrev pub IsToldAs : LateRunning → World → ℕ → Type 0
IsToldAs r w number = (slice_get r.told number ≡ Some (outcome_of r.file.run.sessions w)) × IsOutcomeOf r.file.run (outcome_of r.file.run.sessions w)

-- whether the steps with these numbers are quiet in the world
abbrev pub are_quiet : LateRunning → World → ℕ → ℕ → Bool
are_quiet r w first second = is_quiet w (get_or r.file.run.steps first no_step) (get_or r.file.run.steps second no_step)

-- the step leads from the one world to the other
pub record IsEdge (r : LateRunning) (e : Edge) : Type 0 where
  pub world : World
  pub from : slice_get r.seen e.from ≡ Some world
  pub to : slice_get r.seen e.to ≡ Some (send r.file.run.steps world e.step)

-- the outcome is that of the world
pub record IsToldWorld (r : LateRunning) (t : ToldWorld) : Type 0 where
  pub world : World
  pub at : slice_get r.seen t.at ≡ Some world
  pub told : IsToldAs r world t.outcome

-- the answer is whether the steps are quiet in the world
pub record IsPairAnswer (r : LateRunning) (p : PairAnswer) : Type 0 where
  pub world : World
  pub at : slice_get r.seen p.at ≡ Some world
  pub answer : p.is_quiet ≡ are_quiet r world p.step p.other

-- each item that a list has at a place
abbrev pub Each : {T : Type 0} → (T → Type 0) → List (Option T) → Type 0
Each P items = (place : ℕ) → IfSome (get_or items place None) P

-- all that is remembered is true
pub record IsGraph (r : LateRunning) (g : Graph) : Type 0 where
  pub edges : Each (IsEdge r) g.edges.items
  pub told : Each (IsToldWorld r) g.told.items
  pub quiet : Each (IsPairAnswer r) g.quiet.items

-- what is kept: the numbers of the world now and of those at marks, the newest last, and what is remembered
pub record IsKnown (r : LateRunning) (g : Graph) (marks : List (Option ℕ)) (at : Option ℕ) : Type 0 where
  pub now : IsNoted r.seen at r.world
  pub marks_are : AreNoted r.seen (reverse marks) r.marked
  pub graph : IsGraph r g
