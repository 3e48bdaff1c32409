-- A rank with a fact, the order in which a set keeps these, and sets of them.
use Rattle.std.specs.Prelude.{ℕ, Bool, List, []}
use Rattle.std.specs.declared.cmp.Ordering.{Ordering}
use Rattle.std.specs.Ordering.{on, then_cmp, nat_cmp}
use Rattle.std.specs.FinSet.{FinSet, contains}
use Rattle.events.specs.declared.event.Event.{Event}
use Rattle.transcripts.specs.Compact.{outcome_cmp}
use Rattle.rank_facts.specs.declared.fact.Fact.{Fact}
use Rattle.rank_facts.specs.declared.fact.Fact.TheVariants.{Ran, Swap}

-- what a run tells: for each session its events
abbrev pub Told : Type 0
Told = List (List Event)

abbrev pub Entry : Type 0
Entry = ℕ × Fact

-- outcomes stand before swaps
abbrev pub kind_of : Fact → ℕ
kind_of (Ran outcome) = 0
kind_of (Swap k) = 1

abbrev pub told_of : Fact → Told
told_of (Ran outcome) = outcome
told_of (Swap k) = []

abbrev pub place_of : Fact → ℕ
place_of (Ran outcome) = 0
place_of (Swap k) = k

-- outcomes by their compact texts, swaps by their places
abbrev pub fact_cmp : Fact → Fact → Ordering
fact_cmp = then_cmp (on kind_of nat_cmp) (then_cmp (on told_of outcome_cmp) (on place_of nat_cmp))

abbrev pub entry_cmp : Entry → Entry → Ordering
entry_cmp = then_cmp (on (λ (e : Entry). e.0) nat_cmp) (on (λ (e : Entry). e.1) fact_cmp)

-- a finite set of ranks with facts; a rank may have several
abbrev pub FactSet : Type 0
FactSet = FinSet entry_cmp

-- whether a rank has a fact
abbrev pub recorded : FactSet → ℕ → Fact → Bool
recorded facts r fact = contains facts (r, fact)
