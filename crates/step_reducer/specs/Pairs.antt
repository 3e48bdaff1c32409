-- Quiet steps of a world as the program holds it.
use Rattle.std.specs.Prelude.{◌≡◌, ◌≢◌, ℕ, Bool, true, false, not, ◌&&◌, List, All, get_or, Option, Some, None, is_some}
use Rattle.std.specs.List.{list_all}
use Rattle.lock_modes.specs.Resource.{same_resource}
use Rattle.lock_queues.specs.declared.wait.Wait.{Wait}
use Rattle.bound_statements.specs.Plan.{Request}
use Rattle.machine_model.specs.World.{World, look_of, send, session_at}
use Rattle.bound_statements.specs.Plan.{HasKeys, IsShort}
use Rattle.bound_statements.specs.declared.statement.Bound.{Bound}
use Rattle.bound_specs.specs.Spec.{no_step}
use Rattle.rank_facts.specs.Quiet.{is_quiet, SentCalmly}
use Rattle.session_machine.specs.Running.{Running, IsKnown}

-- the steps with these numbers are quiet in the world; in one that is spent nothing is
abbrev pub is_quiet_in : Running → ℕ → ℕ → Bool
is_quiet_in r first second =
    elim r.spent [ true ↦ false | false ↦ is_quiet r.world (get_or r.file.run.steps first no_step) (get_or r.file.run.steps second no_step) ]

-- the session of a step, and the world after two steps
abbrev pub session_of : Running → ℕ → ℕ
session_of r k = (get_or r.file.run.steps k no_step).session

abbrev pub after_both : Running → ℕ → ℕ → World
after_both r k l = send r.file.run.steps (send r.file.run.steps r.world k) l

-- the two steps, sent in either order, lead to one world
abbrev pub HaveOneEnd : Running → ℕ → ℕ → Type 0
HaveOneEnd r k l = after_both r k l ≡ after_both r l k

-- what the first step notes, and what both note, tells of no wait; the waits and all other sessions stay as they are
pub record AreCalm (r : Running) (k l : ℕ) : Type 0 where
  pub first : SentCalmly r.world (send r.file.run.steps r.world k) (session_of r k) k
  pub first_waits : (send r.file.run.steps r.world k).waits ≡ r.world.waits
  pub first_others : (c : ℕ) → c ≢ session_of r k → session_at (send r.file.run.steps r.world k) c ≡ session_at r.world c
  pub both : SentCalmly r.world (after_both r k l) (session_of r k) k × SentCalmly r.world (after_both r k l) (session_of r l) l
  pub both_waits : (after_both r k l).waits ≡ r.world.waits
  pub both_others : (c : ℕ) → c ≢ session_of r k → c ≢ session_of r l → session_at (after_both r k l) c ≡ session_at r.world c

-- a wait, if there is one, is not where the session holds a mode or one of the requests is
abbrev pub clear_of : World → ℕ → List Request → Option Wait → Bool
clear_of w i qs None = true
clear_of w i qs (Some v) = not (is_some (look_of w i v.resource)) && list_all (λ q. not (same_resource v.resource q.resource)) qs

-- the world is not spent, and has what every world has
pub record IsWhole (r : Running) : Type 0 where
  pub whole : r.spent ≡ false
  pub known : IsKnown r

-- statements that have their keys and plans that are short, as those of a spec have
pub record AreBound (statements : List Bound) : Type 0 where
  pub keys : All HasKeys statements
  pub short : All IsShort statements
