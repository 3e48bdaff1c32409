-- The order of entries tells them apart.
use Rattle.std.proofs.Common.{◌≡◌, refl, ap, true}
use Rattle.std.proofs.Common.{Ordering, nat_cmp}
use Rattle.std.specs.declared.cmp.Ordering.TheVariants.{Less, Equal, Greater}
use Rattle.std.specs.Ordering.{ordering_then, eq_by_cmp, is_eq}
use Rattle.std.specs.Cmp.{IsTotalOrder, nat_cmp_total, on_total, then_total}
use Rattle.std.specs.FinSet.{IsAntisymmetric, nat_cmp-IsAntisymmetric}
use Rattle.transcripts.specs.Compact.{outcome_cmp, outcome_total}
use Rattle.transcripts.proofs.OutcomeOrder.{outcome_same}
use Rattle.rank_facts.specs.declared.fact.Fact.{Fact}
use Rattle.rank_facts.specs.declared.fact.Fact.TheVariants.{Ran, Swap}
use Rattle.fact_books.specs.Entries.{Entry, kind_of, told_of, place_of, fact_cmp, entry_cmp}

both_equal : (a b : Ordering) → ordering_then a b ≡ Equal → (a ≡ Equal) × (b ≡ Equal)
both_equal Less b e = cc
both_equal Equal b e = (refl, e)
both_equal Greater b e = cc

fact_parts : (f g : Fact) → kind_of f ≡ kind_of g → told_of f ≡ told_of g → place_of f ≡ place_of g → f ≡ g
fact_parts (Ran o) (Ran p) k b n = ap Ran b
fact_parts (Ran o) (Swap l) k b n = cc
fact_parts (Swap j) (Ran p) k b n = cc
fact_parts (Swap j) (Swap l) k b n = ap Swap n

pub fact_total : IsTotalOrder fact_cmp
fact_total = then_total (on_total kind_of nat_cmp_total) (then_total (on_total told_of outcome_total) (on_total place_of nat_cmp_total))

pub fact_same : IsAntisymmetric fact_cmp
fact_same f g e =
    let p = both_equal (nat_cmp (kind_of f) (kind_of g)) _ e in
    let q = both_equal (outcome_cmp (told_of f) (told_of g)) _ p.1 in
    fact_parts f g (nat_cmp-IsAntisymmetric _ _ p.0) (outcome_same _ _ q.0) (nat_cmp-IsAntisymmetric _ _ q.1)

pub entry_total : IsTotalOrder entry_cmp
entry_total = then_total (on_total (λ (e : Entry). e.0) nat_cmp_total) (on_total (λ (e : Entry). e.1) fact_total)

pub entry_same : IsAntisymmetric entry_cmp
entry_same x y e =
    let p = both_equal (nat_cmp x.0 y.0) _ e in
    let t = nat_cmp-IsAntisymmetric _ _ p.0 in
    let f = fact_same _ _ p.1 in
    λ i. (t i, f i)

pub tied : (o : Ordering) → is_eq o ≡ true → o ≡ Equal
tied Less e = cc
tied Equal e = refl
tied Greater e = cc

-- facts that the order does not tell apart are one
pub tied_facts : (f g : Fact) → eq_by_cmp fact_cmp f g ≡ true → f ≡ g
tied_facts f g e = fact_same f g (tied (fact_cmp f g) e)
