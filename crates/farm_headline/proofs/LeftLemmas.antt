-- The shards that a farm ran which was refused memory for others.
use Rattle.std.proofs.Common.{◌≡◌, ◌↔◌, refl, sym, ap, subst, ◌∙◌, ℕ, zero, suc, ◌+◌, Bool, true, false, cond, List, [], ◌∷◌, arith}
use mathlib.Core.Option.{some, some-ne-none}
use lib.ListN.{get_elem?}
use Rattle.bound_specs.specs.Spec.{Spec}
use Rattle.rank_facts.specs.declared.fact.Fact.{Fact}
use Rattle.rank_facts.specs.declared.shard.Shard.{Shard}
use Rattle.shard_board.specs.Shown.{has}
use Rattle.shard_farm.specs.Farming.{InShards, InShardsBut}
use Rattle.farm_headline.specs.Joins.{LeftsHold, others}
use Rattle.farm_headline.proofs.JoinLemmas.{farms-hold}

-- a shard stands among these
abbrev IsThere : List Shard → Shard → Type 0
IsThere shards shard = (k : ℕ) × (get_elem? shards k ≡ some shard)

-- and its number, counted on from n, is not missing
abbrev IsOther : List ℕ → ℕ → List Shard → Shard → Type 0
IsOther missing n shards shard = (k : ℕ) × (get_elem? shards k ≡ some shard) × (has (n + k) missing ≡ false)

behind : (b : Bool) (first : Shard) (rest : List Shard) (shard : Shard) → IsThere rest shard → IsThere (cond b rest (first ∷ rest)) shard
behind true first rest shard h = h
behind false first rest shard h = (suc h.0, h.1)

here : (b : Bool) (first : Shard) (rest : List Shard) (shard : Shard) → b ≡ false → get_elem? (first ∷ rest) zero ≡ some shard
    → IsThere (cond b rest (first ∷ rest)) shard
here true first rest shard e at = cc
here false first rest shard e at = (zero, at)

into : (missing : List ℕ) (n : ℕ) (shards : List Shard) (shard : Shard) → IsOther missing n shards shard → IsThere (others missing n shards) shard
into missing n [] shard (k, at, out) = absurd (some-ne-none shard (sym at))
into missing n (s ∷ ss) shard (zero, at, out) =
    let same : n + 0 ≡ n = omega arith in
    here (has n missing) s (others missing (suc n) ss) shard (sym (ap (λ m. has m missing) same) ∙ out) at
into missing n (s ∷ ss) shard (suc k, at, out) =
    let same : n + suc k ≡ suc n + k = omega arith in
    behind (has n missing) s (others missing (suc n) ss) shard (into missing (suc n) ss shard (k, at, sym (ap (λ m. has m missing) same) ∙ out))

later : (missing : List ℕ) (n : ℕ) (s : Shard) (ss : List Shard) (shard : Shard) → IsOther missing (suc n) ss shard → IsOther missing n (s ∷ ss) shard
later missing n s ss shard (k, at, out) =
    let same : n + suc k ≡ suc n + k = omega arith in (suc k, at, ap (λ m. has m missing) same ∙ out)

-- the first of them, or one behind it
one-of : (missing : List ℕ) (n : ℕ) (s : Shard) (ss : List Shard) (shard : Shard) (b : Bool) → has n missing ≡ b
    → (IsThere (others missing (suc n) ss) shard → IsOther missing (suc n) ss shard)
    → IsThere (cond b (others missing (suc n) ss) (s ∷ others missing (suc n) ss)) shard → IsOther missing n (s ∷ ss) shard
one-of missing n s ss shard true e rest x = later missing n s ss shard (rest x)
one-of missing n s ss shard false e rest (zero, at) = let same : n + 0 ≡ n = omega arith in (zero, at, ap (λ m. has m missing) same ∙ e)
one-of missing n s ss shard false e rest (suc k, at) = later missing n s ss shard (rest (k, at))

from : (missing : List ℕ) (n : ℕ) (shards : List Shard) (shard : Shard) → IsThere (others missing n shards) shard → IsOther missing n shards shard
from missing n [] shard h = absurd (some-ne-none shard (sym h.1))
from missing n (s ∷ ss) shard h = one-of missing n s ss shard (has n missing) refl (from missing (suc n) ss shard) h

pub lefts-hold : LeftsHold
lefts-hold file reduce shards left is =
    farms-hold file reduce (others left.missing 0 shards) left.book is.of_spec
    (λ r fact. (λ e. in-others r fact ((is.facts r fact).0 e), λ h. (is.facts r fact).1 (in-all r fact h)))
  where
    in-others : (r : ℕ) (fact : Fact) → InShardsBut reduce file.run shards left.missing r fact
        → InShards reduce file.run (others left.missing 0 shards) r fact
    in-others r fact (k, (shard, (at, (out, has_it)))) =
        let same : 0 + k ≡ k = omega arith in
        let x = into left.missing 0 shards shard (k, at, ap (λ m. has m left.missing) same ∙ out) in
        (x.0, (shard, (x.1, has_it)))

    in-all : (r : ℕ) (fact : Fact) → InShards reduce file.run (others left.missing 0 shards) r fact
        → InShardsBut reduce file.run shards left.missing r fact
    in-all r fact (k, (shard, (at, has_it))) =
        let x = from left.missing 0 shards shard (k, at) in
        let same : 0 + x.0 ≡ x.0 = omega arith in
        (x.0, (shard, (x.1, (sym (ap (λ m. has m left.missing) same) ∙ x.2, has_it))))
