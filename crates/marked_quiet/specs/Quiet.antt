-- Quiet steps of a world with marks.
use Rattle.std.specs.Prelude.{◌≡◌, ◌≢◌, ℕ, Bool, true, false, get_or}
use Rattle.bound_specs.specs.Spec.{no_step}
use Rattle.machine_model.specs.World.{World, send, session_at}
use Rattle.rank_facts.specs.Quiet.{is_quiet, SentCalmly}
use Rattle.marked_worlds.specs.Worlds.{MarkedRunning}

-- the steps with these numbers are quiet in the world now; in one that is spent nothing is
abbrev pub is_quiet_at : MarkedRunning → ℕ → ℕ → Bool
is_quiet_at r first second =
    elim r.spent [ true ↦ false | false ↦ is_quiet r.world (get_or r.file.run.steps first no_step) (get_or r.file.run.steps second no_step) ]

-- the session of a step, and the world after two steps
abbrev pub session_of : MarkedRunning → ℕ → ℕ
session_of r k = (get_or r.file.run.steps k no_step).session

abbrev pub after_both : MarkedRunning → ℕ → ℕ → World
after_both r k l = send r.file.run.steps (send r.file.run.steps r.world k) l

-- the two steps, sent in either order, lead to one world
abbrev pub HaveOneEnd : MarkedRunning → ℕ → ℕ → Type 0
HaveOneEnd r k l = after_both r k l ≡ after_both r l k

-- what the first step notes, and what both note, tells of no wait; the waits and all other sessions stay as they are
pub record AreCalm (r : MarkedRunning) (k l : ℕ) : Type 0 where
  pub first : SentCalmly r.world (send r.file.run.steps r.world k) (session_of r k) k
  pub first_waits : (send r.file.run.steps r.world k).waits ≡ r.world.waits
  pub first_others : (c : ℕ) → c ≢ session_of r k → session_at (send r.file.run.steps r.world k) c ≡ session_at r.world c
  pub both : SentCalmly r.world (after_both r k l) (session_of r k) k × SentCalmly r.world (after_both r k l) (session_of r l) l
  pub both_waits : (after_both r k l).waits ≡ r.world.waits
  pub both_others : (c : ℕ) → c ≢ session_of r k → c ≢ session_of r l → session_at (after_both r k l) c ≡ session_at r.world c
