-- A set of facts that is built up in the order of ranks, and the facts of a shard.
use Rattle.std.specs.Prelude.{◌≡◌, ◌↔◌, ℕ, ◌-◌, ◌<◌, ◌≤◌, Bool, true, List, length}
use Rattle.std.specs.FinSet.{union, from_list}
use Rattle.transcripts.specs.Outcome.{OutcomeFits}
use Rattle.bound_specs.specs.Spec.{Spec}
use Rattle.rank_facts.specs.Facts.{IsFactOf}
use Rattle.rank_facts.specs.declared.fact.Fact.{Fact}
use Rattle.rank_facts.specs.declared.fact.Fact.TheVariants.{Ran, Swap}
use Rattle.fact_books.specs.declared.run.Run.{Run}
use Rattle.fact_books.specs.Entries.{FactSet, Told, recorded}
use Rattle.fact_books.specs.declared.known.Known.{Known}
use Rattle.fact_books.specs.Known.{known_in, AreInside}
use Rattle.fact_books.specs.Runs.{Table, firsts, AllTo, repeated}
use Rattle.fact_books.specs.Books.{facts_in, IsKept}

-- facts of runs, of which no further one begins before the next, and outcomes that are known by numbers
pub record Building : Type 0 where
  pub facts : FactSet
  pub next : ℕ
  pub known : List (ℕ × Told)

abbrev pub built_of : Table → List Run → ℕ → List Known → Building
built_of table runs next places = record { facts = facts_in table runs; next = next; known = known_in table places }

-- the runs are kept, and begin up to the next; places are some of the table
pub record IsBuilt (table : Table) (runs : List Run) (next : ℕ) (places : List Known) : Type 0 where
  pub kept : IsKept table runs
  pub before : AllTo next (firsts runs)
  pub inside : AreInside (length table) places

-- with the fact at each rank from first up to but not end
abbrev pub added : Building → ℕ → ℕ → Fact → Building
added b first end fact = record b { facts = union b.facts (from_list (repeated first (end - first) fact)); next = first }

-- the facts are those of these ranks, each with its own
abbrev pub AreFactsOf : Bool → Spec → ℕ → ℕ → FactSet → Type 0
AreFactsOf reduce spec first end facts = (r : ℕ) (fact : Fact) → (recorded facts r fact ≡ true) ↔ ((first ≤ r) × (r < end) × IsFactOf reduce spec r fact)

-- the numbers of a fact have the widths of their types
abbrev pub FactFits : Fact → Type 0
FactFits (Ran outcome) = OutcomeFits outcome
FactFits (Swap k) = k < 256
