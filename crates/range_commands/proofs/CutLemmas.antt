-- The shards of a range: their facts, and that they are a lawful plan.
use Rattle.std.proofs.Common.{◌≡◌, ℕ, ◌<◌, ◌≤◌, Bool, true, List, length, get_or, All, arith}
use Rattle.bound_specs.specs.Spec.{Spec, SpecFile}
use Rattle.rank_facts.specs.Facts.{IsFactOf}
use Rattle.rank_facts.specs.Shards.{IsShardOf}
use Rattle.rank_facts.specs.declared.shard.Shard.{Shard}
use Rattle.fact_books.specs.Entries.{FactSet, recorded}
use Rattle.fact_books.specs.Building.{AreFactsOf}
use Rattle.shard_board.specs.declared.error.TheConstants.{MAX_SEATS, MAX_SHARDS}
use Rattle.shard_board.specs.Changes.{IsPlanOf}
use Rattle.shard_farm.specs.declared.error.FarmError.{FarmError}
use Rattle.shard_farm.specs.declared.error.FarmError.TheVariants as farm_error
use Rattle.shard_farm.specs.Farming.{AreShardFacts, IsNotFarmed}
use Rattle.shard_farm.proofs.CrewLemmas.{found_at}
use Rattle.range_progress.specs.Cutting.{AreCut}
use Rattle.range_commands.specs.Ranges.{IsRangeOf, IsOfLawfulPlan}

-- their facts are those of the range's ranks
pub cut-facts : (reduce : Bool) (spec : Spec) (first end : ℕ) (shards : List Shard) (facts : FactSet) → AreCut first end end shards
    → AreShardFacts reduce spec shards facts → AreFactsOf reduce spec first end facts
cut-facts reduce spec first end shards facts c has r fact = (there, back)
  where
    there : recorded facts r fact ≡ true → (first ≤ r) × (r < end) × IsFactOf reduce spec r fact
    there h =
        let x = (has r fact).0 h in
        let p = c.parts x.0 x.1.0 x.1.1.0 in
        let from = p.from in
        let to = p.to in
        let low = x.1.1.1.0 in
        let high = x.1.1.1.1 in
        (omega arith, omega arith, x.1.1.1.2)

    back : (first ≤ r) × (r < end) × IsFactOf reduce spec r fact → recorded facts r fact ≡ true
    back h = let y = c.whole r h.0 h.1 in (has r fact).1 (y.0, (y.1.0, (y.1.1.0, (y.1.1.1.0, y.1.1.1.1, h.2))))

-- a range that is as long as one may be has as many shards as a plan may have
cut-few : (spec : Spec) (first end : ℕ) (shards : List Shard) → IsRangeOf spec first end → AreCut first end end shards → length shards ≤ MAX_SHARDS
cut-few spec first end shards is c = let few = is.few in let many = c.many in omega arith

cut-lawful : (spec : Spec) (first end : ℕ) (shards : List Shard) → IsRangeOf spec first end → AreCut first end end shards → All (IsShardOf spec) shards
cut-lawful spec first end shards is c k d within =
    let p = c.parts k (get_or shards k d) (found_at shards k d within) in
    let order = p.order in
    let to = p.to in
    let few = p.few in
    let inside = is.inside in
    record { order = omega arith; inside = omega arith; few = omega arith }

-- so that the shards of a range are a lawful plan
pub cut-plan : (spec : Spec) (first end : ℕ) (shards : List Shard) (workers : ℕ) → IsRangeOf spec first end → AreCut first end end shards → 1 ≤ workers
    → workers ≤ MAX_SEATS → IsPlanOf spec shards workers
cut-plan spec first end shards workers is c some few = record {
  few = cut-few spec first end shards is c;
  lawful = cut-lawful spec first end shards is c;
  some_seat = some;
  few_seats = few;
}

-- and are not refused as none
pub of-plan : (reduce : Bool) (file : SpecFile) (shards : List Shard) (workers : ℕ) (error : FarmError) → IsPlanOf file.run shards workers
    → IsNotFarmed reduce file shards workers error → IsOfLawfulPlan error
of-plan reduce file shards workers farm_error.BadPlan is h = h is
of-plan reduce file shards workers (farm_error.Start error) is h = tt
of-plan reduce file shards workers farm_error.NotStarted is h = tt
of-plan reduce file shards workers (farm_error.NoMemory left) is h = tt
