-- What a walk says of ranks, read by the outcomes that it told.
use Rattle.std.specs.Prelude.{ℕ, ◌<◌, List, [], length, get_or}
use Rattle.events.specs.declared.event.Event.{Event}
use Rattle.rank_facts.specs.declared.fact.Fact.{Fact}
use Rattle.rank_facts.specs.declared.fact.Fact.TheVariants.{Ran, Swap}
use Rattle.step_reducer.specs.declared.fact.FactRun.{FactRun}
use Rattle.step_reducer.specs.declared.fact.Given.{Given}
use Rattle.step_reducer.specs.declared.said.Said.{Said}
use Rattle.step_reducer.specs.declared.said.Said.TheVariants as said
use Rattle.step_reducer.specs.declared.said.SaidRun.{SaidRun}
use Rattle.step_reducer.specs.declared.word_walk.Found.{Found}

-- the fact that is said: the outcome with the number among those that were told, or the swap
abbrev pub fact_of : List (List (List Event)) → Said → Fact
fact_of told (said.Ran number) = Ran (get_or told number [])
fact_of told (said.Swap place) = Swap place

-- a number is that of an outcome that was told
abbrev pub IsTold : List (List (List Event)) → Said → Type 0
IsTold told (said.Ran number) = number < length told
IsTold told (said.Swap place) = Unit {0}

-- the run with its fact
abbrev pub run_of : List (List (List Event)) → SaidRun → FactRun
run_of told r = record { first = r.first; end = r.end; fact = fact_of told r.said }

-- a run of a fact, and how many steps were sent for it
pub record Giving : Type 0 where
  pub run : FactRun
  pub sent : ℕ

abbrev pub giving_of : List (List (List Event)) → Given → Giving
giving_of told g = record { run = run_of told g.run; sent = g.sent }

-- a fact, the rank behind the last one that has it, and how many steps were sent for it
pub record Finding : Type 0 where
  pub end : ℕ
  pub fact : Fact
  pub sent : ℕ

abbrev pub finding_of : List (List (List Event)) → Found → Finding
finding_of told f = record { end = f.end; fact = fact_of told f.said; sent = f.sent }
