-- The shards of a range, one by one.
use Rattle.std.proofs.Common.{◌≡◌, ◌⊎◌, ⊎_elim, refl, subst, ℕ, ◌<◌, ◌≤◌, List, [], ◌∷◌, ◌++◌, length, arith}
use Rattle.std.proofs.lemmas.List.{length-append}
use Rattle.atomic_table.proofs.Lists.{at_longer, at_last}
use Rattle.rank_facts.specs.declared.shard.Shard.{Shard}
use Rattle.shard_board.proofs.RowLemmas.{at_end}
use Rattle.range_progress.specs.Cutting.{AreCut, IsCut, IsCutAt, IsInOne}

in-longer : (shards : List Shard) (one : Shard) (r : ℕ) → IsInOne shards r → IsInOne (shards ++ one ∷ []) r
in-longer shards one r (n, (s, (is, inside))) = (n, (s, (at_longer shards (one ∷ []) n s is, inside)))

-- one shard more
pub cut-more : (first at next end : ℕ) (shards : List Shard) → IsCutAt at end next → AreCut first at end shards
    → AreCut first next end (shards ++ record { first = at; end = next } ∷ [])
cut-more first at next end shards c a =
    let one : Shard = record { first = at; end = next } in
    let from = a.from in
    let more = c.more in
    let few = c.few in
    let inside = c.inside in
    let full = a.full (omega arith) in
    let many = length-append shards (one ∷ []) in
    record {
      from = omega arith;
      to = inside;
      parts = λ n s is. ⊎_elim (λ old. a.parts n s old) (λ (new : (n ≡ length shards) × (one ≡ s)). last n s new.0 new.1) (at_end shards one s n is);
      whole = λ r low high.
          let cases : (r < at) ⊎ (at ≤ r) = grind arith in
          ⊎_elim (λ lt. in-longer shards one r (a.whole r low lt)) (λ ge. (length shards, (one, (at_last shards one (length shards) refl, (ge, high))))) cases;
      full = λ lt. let e = c.full lt in omega arith;
      many = omega arith;
    }
  where
    last : (n : ℕ) (s : Shard) → n ≡ length shards → record { first = at; end = next } ≡ s → IsCut first end n s
    last n s number is =
        subst (IsCut first end n) is (
        let full = a.full (omega (arith, c.more, c.inside)) in
        record {
          from = omega (arith, full, number);
          order = c.more;
          to = c.inside;
          few = c.few;
          whole = c.full;
        })
