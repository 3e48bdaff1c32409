-- What bytes are as a book, or why they are none: the first refusal.
use Rattle.std.specs.Prelude.{◌≡◌, ℕ, suc, ◌+◌, ◌≤◌, ◌⊎◌, ◌==◌, cond, List, [], length, codes, Option, Some, None, option_and_then, option_map}
use Rattle.std.specs.Prelude.{Ok, Err, IsUtf8, string_bytes}
use Rattle.std.specs.FinSet.{from_list}
use Rattle.serde_json.specs.Data.{Data, Items, Members, no_members, member}
use Rattle.serde_json.specs.Find.{get, as_array, as_object, as_str}
use Rattle.serde_json.specs.Read.{read}
use Rattle.bound_specs.specs.Spec.{SpecFile}
use Rattle.spec_reader.specs.declared.tree.SpecText.{SpecText}
use Rattle.spec_reader.specs.Whole.{spec_tree}
use Rattle.bound_specs.specs.Binding.{IsFileOf, bound_file}
use Rattle.fact_books.specs.Books.{Contents, facts_in}
use Rattle.book_format.specs.declared.error.BookError.{BookError}
use Rattle.book_format.specs.declared.error.BookError.TheVariants.{NotJson, BadField, BadVersion, BadSpec, BadRank, OutOfOrder, BadSwap, TooLarge, NoMemory}
use Rattle.book_format.specs.declared.error.BookError.TheVariants.{ReadFault}
use Rattle.book_format.specs.declared.reading.parts.Version.{Version}
use Rattle.book_format.specs.declared.reading.parts.Version.TheVariants.{Facts, Runs, Other}
use Rattle.book_format.specs.declared.pieces.TheConstants.{MAX_TEXT}
use Rattle.book_format.specs.Reading.{Read, Unless, Given, Then, Gives, whole_in, AreOutcomes}
use Rattle.book_format.specs.ReadingRuns.{AreRunsOf}
use Rattle.book_format.specs.ReadingFacts.{AreEntries}

-- ---- the members of an object

abbrev pub count_of : Members → ℕ
count_of no_members = 0
count_of (member k d ms) = suc (count_of ms)

abbrev pub count_if : Option Members → ℕ
count_if None = 0
count_if (Some ms) = count_of ms

-- how many members an object has; another value has none
abbrev pub members_in : Data → ℕ
members_in d = count_if (as_object d)

abbrev pub items_at : List ℕ → Data → Option Items
items_at name d = option_and_then as_array (get name d)

abbrev pub text_at : List ℕ → Data → Option (List ℕ)
text_at name d = option_and_then as_str (get name d)

-- the number of the format
abbrev pub format_in : Data → Option ℕ
format_in d = option_and_then whole_in (get (codes "format") d)

abbrev pub version_with : ℕ → Version
version_with n = cond (n == 1) Facts (cond (n == 2) Runs Other)

pub record FactParts : Type 0 where
  pub facts : Items
  pub text : List ℕ

pub record RunParts : Type 0 where
  pub facts : Items
  pub outcomes : Items
  pub text : List ℕ

-- the members besides the format, where there are no others
abbrev pub fact_parts : Data → Option FactParts
fact_parts d =
    cond (members_in d == 3)
    (option_and_then (λ facts. option_map (λ text. record { facts = facts; text = text }) (text_at (codes "spec") d)) (items_at (codes "facts") d)) None

abbrev pub run_parts : Data → Option RunParts
run_parts d =
    cond (members_in d == 4)
    (option_and_then (λ facts. option_and_then (λ outcomes. option_map (λ text. record { facts = facts; outcomes = outcomes; text = text })
    (text_at (codes "spec") d)) (items_at (codes "outcomes") d)) (items_at (codes "facts") d)) None

-- ---- books

-- what binding makes of a text that is read
abbrev pub IsBoundTo : SpecText → SpecFile → Type 0
IsBoundTo read file = bound_file (string_bytes read.text) (spec_tree read) ≡ Ok file

-- the file of a text
abbrev pub IsSpecText : List ℕ → Read SpecFile → Type 0
IsSpecText text = Given BadSpec (IsFileOf text) Gives

abbrev pub IsFactsOf : SpecFile → Items → Read Contents → Type 0
IsFactsOf file facts = Then (AreEntries file.run [] facts) (λ entries. Gives (record { file = file; facts = from_list entries }))

abbrev pub IsRunsOf : SpecFile → Items → Items → Read Contents → Type 0
IsRunsOf file facts outcomes =
    Then (AreOutcomes file.run [] outcomes) (λ table.
    Then (AreRunsOf file.run (length table) facts) (λ runs. Gives (record { file = file; facts = facts_in table runs })))

abbrev pub IsFactsBook : Data → Read Contents → Type 0
IsFactsBook d = Given BadField (λ parts. fact_parts d ≡ Some parts) (λ parts. Given BadSpec (IsFileOf parts.text) (λ file. IsFactsOf file parts.facts))

abbrev pub IsRunsBook : Data → Read Contents → Type 0
IsRunsBook d =
    Given BadField (λ parts. run_parts d ≡ Some parts) (λ parts. Given BadSpec (IsFileOf parts.text) (λ file. IsRunsOf file parts.facts parts.outcomes))

abbrev pub IsBookOf : Version → Data → Read Contents → Type 0
IsBookOf Facts d = IsFactsBook d
IsBookOf Runs d = IsRunsBook d
IsBookOf Other d = λ r. r ≡ Err BadVersion

-- what a JSON value is as a book
abbrev pub IsBookValue : Data → Read Contents → Type 0
IsBookValue d = Given BadField (λ n. format_in d ≡ Some n) (λ n. IsBookOf (version_with n) d)

-- the value that bytes are the text of
abbrev pub IsValueOf : List ℕ → Data → Type 0
IsValueOf bytes d = IsUtf8 bytes × (read bytes ≡ Some d)

-- what bytes are as a book
abbrev pub IsBookFile : List ℕ → Read Contents → Type 0
IsBookFile bytes = Unless (length bytes ≤ MAX_TEXT) TooLarge (Given NotJson (IsValueOf bytes) IsBookValue)

-- how many reads fail in a call with this answer
abbrev pub fault_count : BookError → ℕ
fault_count NotJson = 0
fault_count BadField = 0
fault_count BadVersion = 0
fault_count BadSpec = 0
fault_count BadRank = 0
fault_count OutOfOrder = 0
fault_count BadSwap = 0
fault_count TooLarge = 0
fault_count NoMemory = 0
fault_count ReadFault = 1

abbrev pub read_faults_of : {X : Type 0} → Read X → ℕ
read_faults_of (Ok x) = 0
read_faults_of (Err e) = fault_count e

-- the answer is what the bytes are, unless memory ran out or a read failed
abbrev pub IsReadOf : List ℕ → Read Contents → Type 0
IsReadOf bytes (Ok book) = IsBookFile bytes (Ok book)
IsReadOf bytes (Err e) = IsBookFile bytes (Err e) ⊎ ((e ≡ NoMemory) ⊎ (e ≡ ReadFault))

-- how many bytes are taken for an answer: all, or one more than a file may have, unless memory ran out or a read failed
abbrev pub AreTakenFor : Read Contents → ℕ → Type 0
AreTakenFor (Ok book) n = n ≡ MAX_TEXT + 1
AreTakenFor (Err NotJson) n = n ≡ MAX_TEXT + 1
AreTakenFor (Err BadField) n = n ≡ MAX_TEXT + 1
AreTakenFor (Err BadVersion) n = n ≡ MAX_TEXT + 1
AreTakenFor (Err BadSpec) n = n ≡ MAX_TEXT + 1
AreTakenFor (Err BadRank) n = n ≡ MAX_TEXT + 1
AreTakenFor (Err OutOfOrder) n = n ≡ MAX_TEXT + 1
AreTakenFor (Err BadSwap) n = n ≡ MAX_TEXT + 1
AreTakenFor (Err TooLarge) n = n ≡ MAX_TEXT + 1
AreTakenFor (Err NoMemory) n = n ≤ MAX_TEXT + 1
AreTakenFor (Err ReadFault) n = n ≤ MAX_TEXT
