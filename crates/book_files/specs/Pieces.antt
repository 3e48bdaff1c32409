-- What the members of a book's object are that were read so far, whose spec, number of outcomes and format were guessed.
use Rattle.std.specs.Prelude.{◌≡◌, ℕ, ◌+◌, Bool, true, false, List, [], codes, Option, Some, None, Ok, string_bytes}
use Rattle.std.specs.FinSet.{from_list}
use Rattle.json.specs.Token.{Token}
use Rattle.serde_json.specs.Data.{Data, array, object, Items, Members, put}
use Rattle.serde_json.specs.Find.{as_str}
use Rattle.bound_specs.specs.Binding.{IsFileOf}
use Rattle.fact_books.specs.Entries.{Entry, Told}
use Rattle.book_format.specs.Reading.{whole_in, AreOutcomes}
use Rattle.book_format.specs.ReadingBooks.{count_of}
use Rattle.book_format.specs.ReadingFacts.{AreEntries}
use Rattle.book_format.specs.ReadingRuns.{AreRunsOf}
use Rattle.book_format.specs.Tokens.{IsValueAt, member_depth}
use Rattle.book_files.specs.Members.{IsMember, IsNoted, object_depth}
use Rattle.book_files.specs.declared.guess.Guess.{Guess}
use Rattle.book_files.specs.declared.parts.Facts.{Facts}
use Rattle.book_files.specs.declared.parts.Facts.TheVariants.{Each, Runs}
use Rattle.book_files.specs.declared.parts.Parts.{Parts}

-- the spec is that of the text
abbrev pub IsGuess : Guess → Type 0
IsGuess guess = IsFileOf (string_bytes guess.text) guess.spec

-- a value is the facts of a book, one by one, or its runs
abbrev pub IsFactsPart : Guess → Facts → Data → Type 0
IsFactsPart guess (Each built) d =
    (ds : Items) × (entries : List Entry) × (d ≡ array ds) × AreEntries guess.spec.run [] ds (Ok entries) × (built.facts ≡ from_list entries)
IsFactsPart guess (Runs runs) d = (ds : Items) × (d ≡ array ds) × AreRunsOf guess.spec.run guess.outcomes ds (Ok runs.items)

-- a value is the outcomes of a book
abbrev pub IsOutcomesPart : Guess → List Told → Data → Type 0
IsOutcomesPart guess outcomes d = (ds : Items) × (d ≡ array ds) × AreOutcomes guess.spec.run [] ds (Ok outcomes)

-- a value is the number of a format
abbrev pub IsFormatPart : ℕ → Data → Type 0
IsFormatPart n d = whole_in d ≡ Some n

-- a value is the text that was guessed
abbrev pub IsSpecPart : Guess → Data → Type 0
IsSpecPart guess d = as_str d ≡ Some (string_bytes guess.text)

abbrev pub one_if : {X : Type 0} → Option X → ℕ
one_if None = 0
one_if (Some x) = 1

abbrev pub one_where : Bool → ℕ
one_where false = 0
one_where true = 1

-- how many members are read
abbrev pub count_in : Parts → ℕ
count_in parts = one_if parts.facts + (one_if parts.format + (one_if parts.outcomes + one_where parts.spec))

-- the members are these parts and no others
pub record AreParts (guess : Guess) (found : Members) (parts : Parts) : Type 0 where
  pub facts : IsMember (IsFactsPart guess) (codes "facts") found parts.facts
  pub format : IsMember IsFormatPart (codes "format") found parts.format
  pub outcomes : IsMember (IsOutcomesPart guess) (codes "outcomes") found parts.outcomes
  pub spec : IsNoted (IsSpecPart guess) (codes "spec") found parts.spec
  pub count : count_of found ≡ count_in parts

-- the member with this name is read, and put to the parts
abbrev pub Takes : Guess → List ℕ → List Token → List Token → Parts → Parts → Type 0
Takes guess name now left old new =
    (d : Data) × IsValueAt member_depth now d left × ((found : Members) → AreParts guess found old → AreParts guess (put name d found) new)

-- nothing is read yet
pub record AreNone (parts : Parts) : Type 0 where
  pub facts : parts.facts ≡ None
  pub format : parts.format ≡ None
  pub outcomes : parts.outcomes ≡ None
  pub spec : parts.spec ≡ false

-- the tokens are those of an object with these parts as its members
abbrev pub AreAllParts : Guess → List Token → Parts → Type 0
AreAllParts guess ts parts = (found : Members) × IsValueAt object_depth ts (object found) [] × AreParts guess found parts

-- some members are these parts
abbrev pub HasParts : Guess → Parts → Type 0
HasParts guess parts = (found : Members) × AreParts guess found parts
