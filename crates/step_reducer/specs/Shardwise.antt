-- A walk that goes on from shard to shard, between its calls, and what they give.
use Rattle.std.specs.Prelude.{◌≡◌, ℕ, ◌+◌, ◌<◌, ◌≤◌, Bool, false, List, [], Option, Some, None}
use Rattle.bound_specs.specs.Spec.{SpecFile, ranks}
use Rattle.events.specs.declared.event.Event.{Event}
use Rattle.rank_facts.specs.declared.fact.Fact.{Fact}
use Rattle.rank_facts.specs.declared.fact.Fact.TheVariants.{Ran}
use Rattle.rank_facts.specs.declared.shard.Shard.{Shard}
use Rattle.step_reducer.specs.declared.fact.FactRun.{FactRun}
use Rattle.step_reducer.specs.declared.said.SaidRun.{SaidRun}
use Rattle.step_reducer.specs.Saying.{run_of}
use Rattle.step_reducer.specs.declared.walk.Walk.{Walk}
use Rattle.step_reducer.specs.Walks.{AllHave}
use Rattle.step_reducer.specs.Walking.{skips, walk_at, walk_end, IsGoing}

-- the next rank and the end of the shard, the outcomes that were told, in the order in which they were told first, and whether memory was refused
pub record Shardwise : Type 0 where
  pub file : SpecFile
  pub reduce : Bool
  pub at : ℕ
  pub end : ℕ
  pub told : List (List (List Event))
  pub spent : Bool

-- a walk that has given nothing of the shard, and told nothing before
abbrev pub standing_at : SpecFile → Shard → Bool → Shardwise
standing_at file shard reduce =
    record { file = file; reduce = reduce; at = shard.first; end = shard.end; told = []; spent = false }

-- the fact of some ranks from the next one on, of this one alone where none is skipped or it was run
pub record IsPart (x : Shardwise) (run : FactRun) : Type 0 where
  pub first : run.first ≡ x.at
  pub some : run.first < run.end
  pub few : run.end ≤ x.end
  pub one : skips x.reduce x.file.run ≡ false → run.end ≡ run.first + 1
  pub ran : (o : List (List Event)) → run.fact ≡ Ran o → run.end ≡ run.first + 1
  pub facts : AllHave x.reduce x.file.run run.first run.end run.fact

-- none at the end of the shard alone, where the walk stays; else a run, behind which it stands. Its fact is read by the outcomes that are told then
abbrev pub GivesPart : Shardwise → Shardwise → Option SaidRun → Type 0
GivesPart x y None = (x.at ≡ x.end) × (y ≡ x)
GivesPart x y (Some run) =
    IsPart x (run_of y.told run) × (y ≡ record x { at = run.end; told = y.told })

-- ---- what it keeps

-- a walk that stands before this rank and may be asked for all ranks of the spec
pub record IsOnward (file : SpecFile) (reduce : Bool) (at : ℕ) (w : Walk) : Type 0 where
  pub going : IsGoing file reduce w
  pub to : walk_end file w ≡ ranks file.run
  pub here : walk_at w ≡ at

-- a walk that is not spent stands before the next rank, and the shard is of ranks of the spec
pub record IsKept (spent : Bool) (file : SpecFile) (reduce : Bool) (at end : ℕ) (w : Walk) : Type 0 where
  pub walk : spent ≡ false → IsOnward file reduce at w
  pub order : at ≤ end
  pub inside : end ≤ ranks file.run
