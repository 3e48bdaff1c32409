-- From what was left out to the whole.
use Rattle.std.proofs.Common.{◌≡◌, Bool, ℕ, List, [], ap}
use Rattle.bound_specs.specs.Spec.{Spec}
use Rattle.rank_facts.specs.declared.shard.Shard.{Shard}
use Rattle.fact_books.specs.Entries.{FactSet}
use Rattle.shard_board.specs.Shown.{has}
use Rattle.shard_farm.specs.Farming.{AreShardFacts, AreFactsBut}

-- where nothing is missing the facts are those of all shards
pub none_missing : (reduce : Bool) (spec : Spec) (shards : List Shard) (missing : List ℕ) (facts : FactSet) → AreFactsBut reduce spec shards missing facts
    → missing ≡ [] → AreShardFacts reduce spec shards facts
none_missing reduce spec shards missing facts are none r fact =
    (λ h. let t = (are r fact).0 h in (t.0, (t.1.0, (t.1.1.0, t.1.1.1.1))), λ t. (are r fact).1 (t.0, (t.1.0, (t.1.1.0, (ap (has t.0) none, t.1.1.1)))))
