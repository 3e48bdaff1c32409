-- Setups on a stage, before any step is sent: how each of them ends, and the stage between them.
use Rattle.std.specs.Prelude.{◌≡◌, ℕ, suc, Bool, true, false, List, [], length, All}
use Rattle.lock_queues.specs.Locks.{waits_now}
use Rattle.bound_statements.specs.declared.statement.Bound.{Bound}
use Rattle.session_steps.specs.Stage.{Staged}
use Rattle.session_steps.specs.declared.setups.SetUp.{SetUp}
use Rattle.session_steps.specs.declared.setups.SetUp.TheVariants as end
use Rattle.machine_model.specs.World.{session_at}
use Rattle.machine_model.specs.Start.{IsAlone, IsIdle, has_failed, is_outside, after_setup, forgotten}
use Rattle.session_steps.specs.Stage.{world_in, IsStage, IsSilent}

-- how a setup ends by whether a fault was told, a request waits and no block is open
abbrev pub end_of : Bool → Bool → Bool → SetUp
end_of true waits outside = end.Failed
end_of false true outside = end.Waits
end_of false false true = end.Closed
end_of false false false = end.Open

-- a setup is done without a fault or a wait, and what it told is forgotten
pub record IsSetUp (i : ℕ) (block : List Bound) (x y : Staged) : Type 0 where
  pub whole : has_failed (session_at (after_setup (world_in [] x) i block) i) ≡ false
  pub idle : waits_now (after_setup (world_in [] x) i block).waits i ≡ false
  pub world : world_in [] y ≡ forgotten (after_setup (world_in [] x) i block) i
  pub stage : IsStage [] y
  pub silent : All IsSilent x.members → All IsSilent y.members
  pub count : length y.members ≡ length x.members

-- how a setup has ended
abbrev pub HasEnded : SetUp → ℕ → List Bound → Staged → Staged → Type 0
HasEnded end.Failed i block x y = has_failed (session_at (after_setup (world_in [] x) i block) i) ≡ true
HasEnded end.Waits i block x y =
    (has_failed (session_at (after_setup (world_in [] x) i block) i) ≡ false) × (waits_now (after_setup (world_in [] x) i block).waits i ≡ true)
HasEnded end.Open i block x y = IsSetUp i block x y × (is_outside (session_at (after_setup (world_in [] x) i block) i).status ≡ false)
HasEnded end.Closed i block x y = IsSetUp i block x y × (is_outside (session_at (after_setup (world_in [] x) i block) i).status ≡ true)

-- a stage for the main setups, with the control session behind the others
pub record IsReadyForMains (control : ℕ) (s : Staged) : Type 0 where
  pub count : length s.members ≡ suc control
  pub stage : IsStage [] s
  pub silent : All IsSilent s.members
  pub world : IsAlone control (suc control) (world_in [] s)

-- a stage for the setups of sessions, the control session among so many
pub record IsReadyForSessions (count : ℕ) (s : Staged) : Type 0 where
  pub each : length s.members ≡ count
  pub stage : IsStage [] s
  pub silent : All IsSilent s.members
  pub world : IsIdle count (world_in [] s)
