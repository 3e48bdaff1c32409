-- What JSON values are as the facts of a book one by one.
use Rattle.std.specs.Prelude.{◌≡◌, ◌≢◌, ℕ, ◌+◌, ◌<◌, ◌≤◌, ◌⊎◌, nat_lt, cond, List, [], ◌∷◌, ◌++◌, codes, map, Option, Some, None, option_map, option_and_then}
use Rattle.std.specs.Prelude.{Err}
use Rattle.std.specs.declared.cmp.Ordering.TheVariants.{Less}
use Rattle.serde_json.specs.Data.{Data, null, boolean, number, string, array, object, Items, no_items, item}
use Rattle.serde_json.specs.Find.{as_str}
use Rattle.bound_specs.specs.Spec.{Spec, ranks}
use Rattle.rank_facts.specs.Swap.{leads_in}
use Rattle.rank_facts.specs.declared.fact.Fact.{Fact}
use Rattle.rank_facts.specs.declared.fact.Fact.TheVariants.{Ran, Swap}
use Rattle.fact_books.specs.Entries.{Entry, entry_cmp}
use Rattle.fact_books.specs.Recording.{LeadsAlong}
use Rattle.book_format.specs.declared.error.BookError.TheVariants.{BadField, BadRank, OutOfOrder, BadSwap}
use Rattle.book_format.specs.declared.reading.facts.RankFact.{RankFact}
use Rattle.book_format.specs.Reading.{Read, Unless, Given, Then, Gives, whole_in, StandsAfter, IsOutcome}

-- a place is a byte
abbrev pub place_in : Data → Option ℕ
place_in d = option_and_then (λ k. cond (nat_lt k 256) (Some k) None) (whole_in d)

abbrev pub IsRan : Spec → Data → Read Fact → Type 0
IsRan spec d = Then (IsOutcome spec d) (λ outcome. Gives (Ran outcome))

abbrev pub IsSwap : Data → Read Fact → Type 0
IsSwap d = Given BadField (λ k. place_in d ≡ Some k) (λ k. Gives (Swap k))

-- what a word and a value tell
abbrev pub IsFact : Spec → List ℕ → Data → Read Fact → Type 0
IsFact spec word d r =
    ((word ≡ codes "ran") × IsRan spec d r)
    ⊎ (((word ≡ codes "swap") × IsSwap d r) ⊎ ((word ≢ codes "ran") × (word ≢ codes "swap") × (r ≡ Err BadField)))

pub record EntryParts : Type 0 where
  pub rank : ℕ
  pub word : List ℕ
  pub value : Data

-- a rank, a word and a value
abbrev pub entry_in_three : Data → Data → Data → Option EntryParts
entry_in_three a b c = option_and_then (λ rank. option_map (λ word. record { rank = rank; word = word; value = c }) (as_str b)) (whole_in a)

abbrev pub entry_items : Items → Option EntryParts
entry_items (item a (item b (item c no_items))) = entry_in_three a b c
entry_items ds = None

abbrev pub entry_parts : Data → Option EntryParts
entry_parts null = None
entry_parts (boolean b) = None
entry_parts (number n) = None
entry_parts (string s) = None
entry_parts (array ds) = entry_items ds
entry_parts (object ms) = None

abbrev pub IsEntry : Spec → Data → Read Entry → Type 0
IsEntry spec d =
    Given BadField (λ parts. entry_parts d ≡ Some parts) (λ parts. Then (IsFact spec parts.word parts.value) (λ fact. Gives (parts.rank, fact)))

-- a swap leads to a rank
abbrev pub IsFactLed : Spec → ℕ → Fact → Type 0
IsFactLed spec r (Ran outcome) = Unit {0}
IsFactLed spec r (Swap k) = LeadsAlong (leads_in spec) k r (r + 1)

abbrev pub ComesUnder : Entry → Entry → Type 0
ComesUnder a b = entry_cmp a b ≡ Less

-- the next rank with a fact
abbrev pub IsNextEntry : Spec → List Entry → Data → Read Entry → Type 0
IsNextEntry spec before d =
    Then (IsEntry spec d) (λ entry.
    Unless (entry.0 < ranks spec) BadRank
    (Unless (IsFactLed spec entry.0 entry.1) BadSwap
    (Unless (StandsAfter ComesUnder before entry) OutOfOrder
    (Gives entry))))

-- ranks with facts behind those that are read
abbrev pub AreEntries : Spec → List Entry → Items → Read (List Entry) → Type 0
AreEntries spec before no_items = Gives before
AreEntries spec before (item d ds) = Then (IsNextEntry spec before d) (λ entry. AreEntries spec (before ++ entry ∷ []) ds)

-- ---- as contracts see them

abbrev pub entry_of : RankFact → Entry
entry_of fact = (fact.rank, fact.fact)

abbrev pub entries_of : List RankFact → List Entry
entries_of facts = map entry_of facts

-- none has a smaller rank than one before it
abbrev pub AllUnder : ℕ → List Entry → Type 0
AllUnder low [] = Unit {0}
AllUnder low (e ∷ es) = (low ≤ e.0) × AllUnder low es

abbrev pub AreUnder : List Entry → Type 0
AreUnder [] = Unit {0}
AreUnder (e ∷ es) = AllUnder e.0 es × AreUnder es

abbrev pub RanksBelow : ℕ → List Entry → Type 0
RanksBelow n [] = Unit {0}
RanksBelow n (e ∷ es) = (e.0 < n) × RanksBelow n es
