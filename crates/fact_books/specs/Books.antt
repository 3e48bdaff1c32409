-- Books: a spec with its text and a finite set of facts; what is joined, and the least rank without a fact.
use Rattle.std.specs.Prelude.{◌≡◌, ℕ, ◌<◌, ◌≤◌, List, length, Option, Some, None, true, string_bytes}
use Rattle.std.specs.FinSet.{union, from_list, empty}
use Rattle.bound_specs.specs.Spec.{Spec, SpecFile, ranks}
use Rattle.bound_specs.specs.Binding.{IsFileOf}
use Rattle.transcripts.specs.Outcome.{OutcomeFits}
use Rattle.machine_model.specs.Outcome.{IsOutcomeOf}
use Rattle.rank_facts.specs.Swap.{leads_in}
use Rattle.rank_facts.specs.declared.fact.Fact.{Fact}
use Rattle.rank_facts.specs.declared.fact.Fact.TheVariants.{Ran, Swap}
use Rattle.fact_books.specs.declared.about.About.{About}
use Rattle.fact_books.specs.declared.run.Run.{Run}
use Rattle.fact_books.specs.About.{IsShapeOf}
use Rattle.fact_books.specs.Entries.{FactSet, recorded}
use Rattle.fact_books.specs.Runs.{Table, facts_of, firsts, IsRising, AllSound}

pub record Contents : Type 0 where
  pub file : SpecFile
  pub facts : FactSet

-- what may stand in a book: of one of the spec's ranks, an outcome of its sessions and their own steps, whose numbers fit, or a swap that leads somewhere
abbrev pub IsRecordable : Spec → ℕ → Fact → Type 0
IsRecordable spec r (Ran outcome) = (r < ranks spec) × IsOutcomeOf spec outcome × OutcomeFits outcome
IsRecordable spec r (Swap k) = (r < ranks spec) × (k < 256) × ((below : ℕ) × (leads_in spec r k ≡ Some below))

abbrev pub AllRecordable : Spec → FactSet → Type 0
AllRecordable spec facts = (r : ℕ) (fact : Fact) → recorded facts r fact ≡ true → IsRecordable spec r fact

-- the book of both, where both are of one file
abbrev pub joined : Contents → Contents → Contents
joined a b = record { file = a.file; facts = union a.facts b.facts }

-- the book of a spec without facts
abbrev pub empty_book : SpecFile → Contents
empty_book file = record { file = file; facts = empty }

abbrev pub HasFact : FactSet → ℕ → Type 0
HasFact facts r = (fact : Fact) × (recorded facts r fact ≡ true)

-- the least of so many ranks without a fact, if there is one
abbrev pub IsLeastMissing : FactSet → ℕ → Option ℕ → Type 0
IsLeastMissing facts ranks None = (r : ℕ) → r < ranks → HasFact facts r
IsLeastMissing facts ranks (Some m) = (m < ranks) × (HasFact facts m → ⊥) × ((r : ℕ) → r < m → HasFact facts r)

-- the least number, from a given one on, that has no fact
pub record IsFirstMissing (facts : FactSet) (from m : ℕ) : Type 0 where
  pub up : from ≤ m
  pub none : HasFact facts m → ⊥
  pub below : (r : ℕ) → from ≤ r → r < m → HasFact facts r

-- ---- what a book keeps

abbrev pub facts_in : Table → List Run → FactSet
facts_in table runs = from_list (facts_of table runs)

-- the runs rise, each has a rank, and their outcomes are in the table
pub record IsKept (table : Table) (runs : List Run) : Type 0 where
  pub rising : IsRising (firsts runs)
  pub sound : AllSound (length table) runs

abbrev pub file_of : About → SpecFile
file_of about = about.known.0

-- the text is the file's, and the ranks and their shape are its own
pub record IsAbout (about : About) : Type 0 where
  pub is_file : IsFileOf (string_bytes about.text) (file_of about)
  pub ranks_are : about.ranks ≡ ranks (file_of about).run
  pub shape_is : IsShapeOf (file_of about).run about.shape

-- what is kept of this file
pub record IsAboutOf (file : SpecFile) (about : About) : Type 0 where
  pub file_is : file_of about ≡ file
  pub is_about : IsAbout about

abbrev pub contents_of : About → Table → List Run → Contents
contents_of about table runs = record { file = file_of about; facts = facts_in table runs }

pub record IsBook (about : About) (table : Table) (runs : List Run) : Type 0 where
  pub about_is : IsAbout about
  pub kept : IsKept table runs
  pub recordable : AllRecordable (file_of about).run (facts_in table runs)
