-- Books that a caller joins: what they hold, and what follows.
use Rattle.std.proofs.Common.{◌≡◌, ◌↔◌, ◌⊎◌, inl, inr, ⊎_elim, refl, sym, subst, ◌∙◌, ℕ, zero, suc, ◌<◌, ◌≤◌, Bool, true, false, List, [], ◌∷◌, ◌++◌}
use Rattle.std.proofs.lemmas.Bool.{or_cases, or_left, or_right}
use Rattle.std.specs.FinSet.{union}
use mathlib.Core.Option.{some, some-ne-none, some-injective}
use Rattle.bound_specs.specs.Spec.{Spec, SpecFile, ranks}
use Rattle.rank_facts.specs.Values.{AllTrue, CoverEachRank}
use Rattle.rank_facts.specs.Facts.{IsFactOf}
use Rattle.rank_facts.specs.declared.fact.Fact.{Fact}
use Rattle.rank_facts.specs.declared.shard.Shard.{Shard}
use Rattle.fact_books.specs.Entries.{recorded}
use Rattle.fact_books.proofs.SetLemmas.{in_union, same_facts}
use Rattle.shard_farm.specs.Farming.{InShards}
use Rattle.farm_headline.specs.declared.headline.Plan.{Plan}
use Rattle.farm_headline.specs.Runs.{HaveFact, AnyRun, farms_of, WasRunByOne}
use Rattle.farm_headline.specs.Headline.{RunsAreTrue, RunsCover, NoRunIsMissing}
use Rattle.farm_headline.specs.Joins.{JobsHold, FarmsHold, RangesHold, RunsHold, JoinsHold, RunsDecide}
use Rattle.farm_headline.proofs.RunLemmas.{one-fact, one-true}
use Rattle.farm_headline.proofs.TrueReports.{told-none-missing}

-- ---- what the book of one call holds

-- a list of one run is that run
pub jobs-hold : JobsHold
jobs-hold file job book same all = record { file_is = same; facts = λ r fact. (λ e. inl ((all r fact).0 e), ⊎_elim (λ w. (all r fact).1 w) (λ n. absurd n)) }

pub farms-hold : FarmsHold
farms-hold file reduce shards book same all = record {
  file_is = same;
  facts = λ r fact. (λ e. inl ((all r fact).0 e), ⊎_elim (λ w. (all r fact).1 w) (λ n. absurd n));
}

-- a range is one shard
pub ranges-hold : RangesHold
ranges-hold file reduce first end book same all = record {
  file_is = same;
  facts = λ r fact. (λ e. inl (zero, (range, (refl, (all r fact).0 e))), ⊎_elim (λ w. (all r fact).1 (back r fact w)) (λ n. absurd n));
}
  where
    range : Shard
    range = record { first = first; end = end }

    back : (r : ℕ) (fact : Fact) → InShards reduce file.run (range ∷ []) r fact → (first ≤ r) × (r < end) × IsFactOf reduce file.run r fact
    back r fact (zero, (shard, (at, has))) =
        subst (λ (s : Shard). (s.first ≤ r) × (r < s.end) × IsFactOf reduce file.run r fact) (sym (some-injective range shard at)) has
    back r fact (suc n, (shard, (at, has))) = absurd (some-ne-none shard (sym at))

-- one of the plans has the fact where one of their runs has
into-farms : (spec : Spec) (plans : List Plan) (r : ℕ) (fact : Fact) → HaveFact spec plans r fact → WasRunByOne spec (farms_of plans) r fact
into-farms spec [] r fact (k, (plan, (at, has))) = absurd (some-ne-none plan (sym at))
into-farms spec (p ∷ ps) r fact (zero, (plan, (at, has))) =
    inl (subst (λ (q : Plan). InShards q.reduce spec q.shards.items r fact) (sym (some-injective p plan at)) has)
into-farms spec (p ∷ ps) r fact (suc k, (plan, (at, has))) = inr (into-farms spec ps r fact (k, (plan, (at, has))))

from-farms : (spec : Spec) (plans : List Plan) (r : ℕ) (fact : Fact) → WasRunByOne spec (farms_of plans) r fact → HaveFact spec plans r fact
from-farms spec [] r fact h = absurd h
from-farms spec (p ∷ ps) r fact (inl h) = (zero, (p, (refl, h)))
from-farms spec (p ∷ ps) r fact (inr h) = let x = from-farms spec ps r fact h in (suc x.0, (x.1.0, (x.1.1.0, x.1.1.1)))

pub runs-hold : RunsHold
runs-hold file job plans book h = record {
  file_is = h.file_is;
  facts = λ r fact. (
    λ e. ⊎_elim (λ l. inl l) (λ p. inr (into-farms file.run plans r fact p)) ((h.facts r fact).0 e),
    ⊎_elim (λ l. (h.facts r fact).1 (inl l)) (λ p. (h.facts r fact).1 (inr (from-farms file.run plans r fact p))),
  );
}

-- ---- what a join holds

-- what the one or the other runs
by-both : (spec : Spec) (xs ys : List AnyRun) (r : ℕ) (fact : Fact)
    → WasRunByOne spec (xs ++ ys) r fact ↔ (WasRunByOne spec xs r fact ⊎ WasRunByOne spec ys r fact)
by-both spec [] ys r fact = (λ y. inr y, ⊎_elim (λ n. absurd n) (λ y. y))
by-both spec (x ∷ xs) ys r fact =
    let more = by-both spec xs ys r fact in (
      ⊎_elim (λ w. inl (inl w)) (λ m. ⊎_elim (λ l. inl (inr l)) (λ y. inr y) (more.0 m)),
      ⊎_elim (⊎_elim (λ w. inl w) (λ l. inr (more.1 (inl l)))) (λ y. inr (more.1 (inr y))),
    )

pub joins-hold : JoinsHold
joins-hold file xs ys a b h k = record { file_is = h.file_is; facts = λ r fact. (there r fact, back r fact) }
  where
    there : (r : ℕ) (fact : Fact) → recorded (union a.facts b.facts) r fact ≡ true → WasRunByOne file.run (xs ++ ys) r fact
    there r fact e =
        (by-both file.run xs ys r fact).1 (⊎_elim (λ t. inl ((h.facts r fact).0 t)) (λ t. inr ((k.facts r fact).0 t))
        (or_cases (recorded a.facts r fact) (recorded b.facts r fact) (sym (in_union a.facts b.facts (r, fact)) ∙ e)))

    back : (r : ℕ) (fact : Fact) → WasRunByOne file.run (xs ++ ys) r fact → recorded (union a.facts b.facts) r fact ≡ true
    back r fact w =
        in_union a.facts b.facts (r, fact)
        ∙ ⊎_elim (λ l. or_left (recorded a.facts r fact) (recorded b.facts r fact) ((h.facts r fact).1 l))
        (λ l. or_right (recorded a.facts r fact) (recorded b.facts r fact) ((k.facts r fact).1 l)) ((by-both file.run xs ys r fact).0 w)

-- ---- what was run decides

one-bool : (x y : Bool) → (x ≡ true → y ≡ true) → (y ≡ true → x ≡ true) → x ≡ y
one-bool true y f g = sym (f refl)
one-bool false true f g = g refl
one-bool false false f g = refl

pub runs-decide : RunsDecide
runs-decide file xs ys a b h k same = λ i. record { file = (h.file_is ∙ sym k.file_is) i; facts = facts i }
  where
    facts : a.facts ≡ b.facts
    facts = same_facts a.facts b.facts (λ e. one-bool (recorded a.facts e.0 e.1) (recorded b.facts e.0 e.1)
        (λ t. (k.facts e.0 e.1).1 ((same e.0 e.1).0 ((h.facts e.0 e.1).0 t)))
        (λ t. (h.facts e.0 e.1).1 ((same e.0 e.1).1 ((k.facts e.0 e.1).0 t))))

-- ---- and is true

pub runs-are-true : RunsAreTrue
runs-are-true file runs book h =
    subst (λ (f : SpecFile). AllTrue f.run (recorded book.facts)) (sym h.file_is) (λ r fact e. one-true file.run runs r fact ((h.facts r fact).0 e))

pub runs-cover : RunsCover
runs-cover file runs book h s each =
    subst (λ (f : SpecFile). CoverEachRank f.run (recorded book.facts)) (sym h.file_is)
    (λ r lt. let f = one-fact file.run runs r s lt (each r lt) in (f.0, (h.facts r f.0).1 f.1))

pub no-run-is-missing : NoRunIsMissing
no-run-is-missing file runs book r h s lawful refused run =
    let inside : r < ranks file.run = subst (λ (f : SpecFile). r < ranks f.run) h.file_is refused.1.inside in
    let f = one-fact file.run runs r s inside run in
    told-none-missing book lawful r refused.1 f.0 ((h.facts r f.0).1 f.1)
