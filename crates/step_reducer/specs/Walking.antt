-- A walker between its calls, and what they give.
use Rattle.std.specs.Prelude.{◌≡◌, ◌≢◌, ℕ, ◌+◌, ◌-◌, ◌*◌, [], ◌<◌, ◌≤◌, Bool, true, false, ◌&&◌, Option, Some, None, List, length, get_or, ◌⊎◌}
use Rattle.rank_facts.specs.declared.shard.TheConstants.{MAX_RANKS}
use Rattle.spec_reader.specs.declared.TheConstants.{MAX_ITEMS}
use Rattle.bound_specs.specs.Spec.{Spec, SpecFile, ranks}
use Rattle.machine_model.specs.World.{World}
use Rattle.machine_model.specs.Start.{Started, start}
use Rattle.rank_facts.specs.Facts.{IsFactOf, has_no_lines}
use Rattle.rank_facts.specs.declared.fact.Fact.{Fact}
use Rattle.rank_facts.specs.declared.fact.Fact.TheVariants.{Ran}
use Rattle.events.specs.declared.event.Event.{Event}
use Rattle.session_machine.specs.Running.{IsNotRunBy}
use Rattle.session_machine.specs.declared.error.RunError.{RunError}
use Rattle.session_machine.specs.declared.error.RunError.TheVariants as run_error
use Rattle.rank_facts.specs.declared.shard.Shard.{Shard}
use Rattle.rank_facts.specs.Shards.{IsShardOf}
use Rattle.step_reducer.specs.declared.fact.FactRun.{FactRun}
use Rattle.step_reducer.specs.Saying.{Giving}
use Rattle.step_reducer.specs.declared.word_walk.WordWalk.{WordWalk}
use Rattle.step_reducer.specs.declared.line_walk.LineWalk.{LineWalk}
use Rattle.step_reducer.specs.declared.walk.Walk.{Walk}
use Rattle.step_reducer.specs.declared.walk.Walk.TheVariants.{Words, Lines}
use Rattle.step_reducer.specs.Fronts.{line_before, new_steps, sent_by, most_steps}
use Rattle.step_reducer.specs.Walks.{AllHave, RunsOne, IsWalk, Follows}
use Rattle.step_reducer.specs.Lines.{IsLines}

-- a shard's first rank, the next one and the end, the steps sent for the ranks given, whether no run was given in part, and whether memory was refused
pub record Walking : Type 0 where
  pub file : SpecFile
  pub reduce : Bool
  pub first : ℕ
  pub at : ℕ
  pub end : ℕ
  pub sent : ℕ
  pub whole : Bool
  pub spent : Bool

-- a walker that has given nothing
abbrev pub begun_at : SpecFile → Shard → Bool → Walking
begun_at file shard reduce =
    record { file = file; reduce = reduce; first = shard.first; at = shard.first; end = shard.end; sent = 0; whole = true; spent = false }

-- whether ranks are skipped: when reducing, those of a spec without lines that a swap covers; elsewhere each rank is run
abbrev pub skips : Bool → Spec → Bool
skips reduce spec = reduce && has_no_lines spec.lines

-- where no rank is skipped, of each line given the steps behind the front that it shares with the line before are sent
abbrev pub AreSent : Bool → Spec → ℕ → ℕ → ℕ → Type 0
AreSent reduce spec first at sent = skips reduce spec ≡ false → sent ≡ sent_by spec first (at - first)

-- the fact of some ranks from the next one on, of this one alone where none is skipped or it was run
pub record IsRun (x : Walking) (run : FactRun) : Type 0 where
  pub first : run.first ≡ x.at
  pub some : run.first < run.end
  pub few : run.end ≤ x.end
  pub one : skips x.reduce x.file.run ≡ false → run.end ≡ run.first + 1
  pub ran : (o : List (List Event)) → run.fact ≡ Ran o → run.end ≡ run.first + 1
  pub facts : AllHave x.reduce x.file.run run.first run.end run.fact

-- the steps sent, with those for the fact of the next rank: no more than the fact and a line may take, and where no rank is skipped
-- exactly the new ones of its line
pub record HasAdded (x : Walking) (fact : Fact) (sent : ℕ) : Type 0 where
  pub least : x.sent ≤ sent
  pub most : sent ≤ x.sent + most_steps x.file.run x.at fact
  pub few : sent ≤ x.sent + MAX_ITEMS
  pub exact : skips x.reduce x.file.run ≡ false → sent ≡ x.sent + new_steps x.file.run x.first (x.at - x.first)

-- none at the end alone, where the walker stays; else a run, behind which it stands, with the steps sent for it
abbrev pub GivesRun : Walking → Walking → Option FactRun → Type 0
GivesRun x y None = (x.at ≡ x.end) × (y ≡ x)
GivesRun x y (Some run) = IsRun x run × HasAdded x run.fact y.sent × (y ≡ record x { at = run.end; sent = y.sent; whole = true })

-- the next rank with its fact, and the steps sent for it
abbrev pub GivesFact : Walking → Walking → Option (ℕ × Fact) → Type 0
GivesFact x y None = (x.at ≡ x.end) × (y ≡ x)
GivesFact x y (Some p) =
    (p.0 ≡ x.at) × (x.at < x.end) × IsFactOf x.reduce x.file.run x.at p.1 × HasAdded x p.1 y.sent ×
    (y ≡ record x { at = x.at + 1; sent = y.sent; whole = y.whole })

-- the walker is spent; the next rank is still the one that was refused, and the steps sent for the ranks before it are still counted
abbrev pub HasStopped : Walking → Walking → Type 0
HasStopped x y = y ≡ record x { whole = y.whole; spent = true }

-- ---- what a walker keeps

abbrev pub walk_at : Walk → ℕ
walk_at (Words w) = w.at
walk_at (Lines w) = w.at

-- the outcomes that a walk told
abbrev pub walk_told : Walk → List (List (List Event))
walk_told (Words w) = w.stack.told
walk_told (Lines w) = w.path.world.told

-- a walk of the spec's words from the first rank up to the end
pub record IsWords (file : SpecFile) (reduce : Bool) (first end : ℕ) (w : WordWalk) : Type 0 where
  pub walk : IsWalk file w
  pub reduce_is : w.reduce ≡ reduce
  pub end_is : w.end ≡ end
  pub few : w.at ≤ end
  pub follows : reduce ≡ false → Follows file.run first w

-- a walk of the spec's lines from the first rank up to the end
pub record IsLinesTo (file : SpecFile) (first end : ℕ) (w : LineWalk) : Type 0 where
  pub walk : IsLines file w
  pub lines : file.run.lines ≢ []
  pub line : w.path.line.items ≡ line_before file.run first (w.at - first)
  pub from : first ≤ w.at
  pub few : w.at ≤ end
  pub known : end ≤ ranks file.run

abbrev pub IsWalkOf : SpecFile → Bool → ℕ → ℕ → Walk → Type 0
IsWalkOf file reduce first end (Words w) = IsWords file reduce first end w
IsWalkOf file reduce first end (Lines w) = IsLinesTo file first end w

-- a walk of the spec's words or lines, wherever it stands
abbrev pub IsGoing : SpecFile → Bool → Walk → Type 0
IsGoing file reduce (Words w) = IsWalk file w × (w.reduce ≡ reduce)
IsGoing file reduce (Lines w) = IsLines file w × (file.run.lines ≢ [])

-- the end of the ranks that a walk may be asked for
abbrev pub walk_end : SpecFile → Walk → ℕ
walk_end file (Words w) = w.end
walk_end file (Lines w) = ranks file.run

-- the walk before another rank
abbrev pub moved_to : ℕ → Walk → Walk
moved_to rank (Words w) = Words (record w { at = rank })
moved_to rank (Lines w) = Lines (record w { at = rank })

-- the walk has given the fact of ranks from where it stood on, none of them past the end, and stands behind them
pub record HasMoved (file : SpecFile) (reduce : Bool) (end : ℕ) (x : Walk) (given : Giving) (y : Walk) : Type 0 where
  pub going : IsGoing file reduce y
  pub to : walk_end file y ≡ walk_end file x
  pub begin : given.run.first ≡ walk_at x
  pub some : given.run.first < given.run.end
  pub few : given.run.end ≤ end
  pub one : skips reduce file.run ≡ false → given.run.end ≡ given.run.first + 1
  pub at : walk_at y ≡ given.run.end
  pub facts : AllHave reduce file.run given.run.first given.run.end given.run.fact
  pub ran : RunsOne given.run.first given.run.end given.run.fact

-- a walk from the first rank up to the end has moved, with the steps sent for that
pub record HasWalked (file : SpecFile) (reduce : Bool) (first end : ℕ) (x : Walk) (given : Giving) (y : Walk) : Type 0 where
  pub moved : HasMoved file reduce end x given y
  pub walk : IsWalkOf file reduce first end y
  pub most : given.sent ≤ most_steps file.run given.run.first given.run.fact
  pub sent_few : given.sent ≤ MAX_ITEMS
  pub exact : skips reduce file.run ≡ false → given.sent ≡ new_steps file.run first (walk_at x - first)

-- what is left of a run whose first ranks were given one by one, which there is only where ranks are skipped
abbrev pub IsRest : SpecFile → Bool → ℕ → Walk → Option FactRun → Type 0
IsRest file reduce at w None = walk_at w ≡ at
IsRest file reduce at w (Some run) =
    (run.first ≡ at) × (run.first < run.end) × (run.end ≡ walk_at w) × AllHave reduce file.run run.first run.end run.fact × (skips reduce file.run ≡ true)
    × ((o : List (List Event)) → run.fact ≡ Ran o → run.end ≡ run.first + 1)

abbrev pub is_whole : Option FactRun → Bool
is_whole None = true
is_whole (Some run) = false

-- the walk of a walker that is not spent, and what is left of a run
pub record IsStanding (file : SpecFile) (reduce : Bool) (first at end sent : ℕ) (w : Walk) (rest : Option FactRun) : Type 0 where
  pub walk : IsWalkOf file reduce first end w
  pub rest_is : IsRest file reduce at w rest
  pub from : first ≤ at
  pub few : end ≤ first + MAX_RANKS
  pub sent_few : sent ≤ MAX_ITEMS * (at - first)

abbrev pub IsStandingUnless : Bool → SpecFile → Bool → ℕ → ℕ → ℕ → ℕ → Walk → Option FactRun → Type 0
IsStandingUnless spent file reduce first at end sent w rest = spent ≡ false → IsStanding file reduce first at end sent w rest

-- ---- which shards are walked

-- why a shard of a spec is not walked: the first of these that fits, unless memory ran out behind the first two
abbrev pub IsNotWalked : Spec → Shard → RunError → Type 0
IsNotWalked spec shard run_error.OutOfRange = (shard.end < shard.first) ⊎ (ranks spec < shard.end)
IsNotWalked spec shard run_error.TooLong = (shard.first ≤ shard.end) × (shard.end ≤ ranks spec) × (shard.first + MAX_RANKS < shard.end)
IsNotWalked spec shard run_error.TooDeep = ⊥
IsNotWalked spec shard run_error.NoMemory = IsShardOf spec shard
IsNotWalked spec shard (run_error.Start error) = IsShardOf spec shard × IsNotRunBy (run_error.Start error) (start spec)

-- the spec starts
abbrev pub Starts : Spec → Type 0
Starts spec = (w : World) × (start spec ≡ Started w)

-- the facts of a shard's ranks in order, so many of them
pub record AreFacts (reduce : Bool) (spec : Spec) (first count : ℕ) (facts : List (ℕ × Fact)) : Type 0 where
  pub count_is : length facts ≡ count
  pub each : (k : ℕ) (d : ℕ × Fact) → k < count → ((get_or facts k d).0 ≡ first + k) × IsFactOf reduce spec (first + k) (get_or facts k d).1
