-- Runs of ranks that have one fact: what they stand for, and their order.
use Rattle.std.specs.Prelude.{◌≡◌, ℕ, zero, suc, ◌-◌, ◌<◌, ◌≤◌, Bool, ◌&&◌, ◌||◌, nat_le, nat_lt, cond, max, drop, List, [], ◌∷◌, ◌++◌, map, slice_index_or}
use Rattle.std.specs.Prelude.{length}
use Rattle.std.specs.Ordering.{eq_by_cmp}
use Rattle.std.specs.List.{list_any}
use Rattle.rank_facts.specs.declared.fact.Fact.{Fact}
use Rattle.rank_facts.specs.declared.fact.Fact.TheVariants.{Ran as RanFact, Swap as SwapFact}
use Rattle.fact_books.specs.declared.run.Run.{Run}
use Rattle.fact_books.specs.declared.run.Tag.{Tag}
use Rattle.fact_books.specs.declared.run.Tag.TheVariants.{Ran, Swap}
use Rattle.fact_books.specs.Entries.{Told, Entry, fact_cmp}

-- the outcomes that tags name by number
abbrev pub Table : Type 0
Table = List Told

abbrev pub fact_in : Table → Tag → Fact
fact_in table (Ran n) = RanFact (slice_index_or table n [])
fact_in table (Swap k) = SwapFact k

abbrev pub within : ℕ → ℕ → ℕ → Bool
within first end r = nat_le first r && nat_lt r end

-- whether the run says this fact of this rank
abbrev pub has : Table → Entry → Run → Bool
has table e run = within run.first run.end e.0 && eq_by_cmp fact_cmp e.1 (fact_in table run.tag)

-- n ranks with one fact
abbrev pub repeated : ℕ → ℕ → Fact → List Entry
repeated first zero f = []
repeated first (suc n) f = (first, f) ∷ repeated (suc first) n f

abbrev pub facts_of : Table → List Run → List Entry
facts_of table [] = []
facts_of table (run ∷ runs) = repeated run.first (run.end - run.first) (fact_in table run.tag) ++ facts_of table runs

-- the new runs say what the old ones and this one do
abbrev pub Adds : List Run → Run → List Run → Type 0
Adds old run new = (table : Table) (e : Entry) → list_any (has table e) new ≡ (list_any (has table e) old || has table e run)

-- the new runs say what both lists do
abbrev pub AddsAll : List Run → List Run → List Run → Type 0
AddsAll left right new = (table : Table) (e : Entry) → list_any (has table e) new ≡ (list_any (has table e) left || list_any (has table e) right)

abbrev pub firsts : List Run → List ℕ
firsts = map (λ run. run.first)

abbrev pub AllFrom : ℕ → List ℕ → Type 0
AllFrom low [] = Unit {0}
AllFrom low (x ∷ xs) = (low ≤ x) × AllFrom low xs

abbrev pub AllTo : ℕ → List ℕ → Type 0
AllTo high [] = Unit {0}
AllTo high (x ∷ xs) = (x ≤ high) × AllTo high xs

-- none is less than one before it
abbrev pub IsRising : List ℕ → Type 0
IsRising [] = Unit {0}
IsRising (x ∷ xs) = AllFrom x xs × IsRising xs

-- the number, if the tag has one, is one of n
abbrev pub IsNumbered : ℕ → Tag → Type 0
IsNumbered n (Ran m) = m < n
IsNumbered n (Swap k) = Unit {0}

-- a run of at least one rank, and of an outcome of a table of n, if of one
abbrev pub IsSound : ℕ → Run → Type 0
IsSound n run = IsNumbered n run.tag × (run.first < run.end)

abbrev pub AllSound : ℕ → List Run → Type 0
AllSound n [] = Unit {0}
AllSound n (run ∷ runs) = IsSound n run × AllSound n runs

abbrev pub KeepsSound : List Run → Run → List Run → Type 0
KeepsSound old run new = (n : ℕ) → AllSound n old → IsSound n run → AllSound n new

abbrev pub KeepsAllSound : List Run → List Run → List Run → Type 0
KeepsAllSound left right new = (n : ℕ) → AllSound n left → AllSound n right → AllSound n new

-- no rank is lower than those of the old runs and of this one
abbrev pub KeepsFrom : List Run → Run → List Run → Type 0
KeepsFrom old run new = (low : ℕ) → AllFrom low (firsts old) → low ≤ run.first → AllFrom low (firsts new)

abbrev pub KeepsAllFrom : List Run → List Run → List Run → Type 0
KeepsAllFrom left right new = (low : ℕ) → AllFrom low (firsts left) → AllFrom low (firsts right) → AllFrom low (firsts new)

-- the new runs rise, and say and keep what both lists do
pub record AreAdded (old more new : List Run) : Type 0 where
  pub facts : AddsAll old more new
  pub rising : IsRising (firsts new)
  pub sound : KeepsAllSound old more new

-- the left run at i is there, and the right one at j, if there is one, is not before it
pub record LeftIsNext (left : List Run) (i : ℕ) (right : List Run) (j : ℕ) : Type 0 where
  pub there : i < length left
  pub low : (c d : Run) → j < length right → (slice_index_or left i c).first ≤ (slice_index_or right j d).first

pub record RightIsNext (left : List Run) (i : ℕ) (right : List Run) (j : ℕ) : Type 0 where
  pub there : j < length right
  pub low : (c d : Run) → i < length left → (slice_index_or right j c).first ≤ (slice_index_or left i d).first

abbrev pub renamed_tag : List ℕ → Tag → Tag
renamed_tag numbers (Ran n) = Ran (slice_index_or numbers n 0)
renamed_tag numbers (Swap k) = Swap k

-- the run with the outcome's number in another table
abbrev pub renamed : List ℕ → Run → Run
renamed numbers run = record { first = run.first; end = run.end; tag = renamed_tag numbers run.tag }

-- a part of merging is done: what is out, and what is left of both
pub record IsMerging (left : List Run) (i : ℕ) (right : List Run) (j : ℕ) (out : List Run) : Type 0 where
  pub left_bound : i ≤ length left
  pub right_bound : j ≤ length right
  pub rising : IsRising (firsts out)
  pub left_low : (d : Run) → i < length left → AllTo (slice_index_or left i d).first (firsts out)
  pub right_low : (d : Run) → j < length right → AllTo (slice_index_or right j d).first (firsts out)
  pub facts : (table : Table) (e : Entry)
      → (list_any (has table e) out || (list_any (has table e) (drop i left) || list_any (has table e) (drop j right)))
      ≡ (list_any (has table e) left || list_any (has table e) right)
  pub sound : (n : ℕ) → AllSound n left → AllSound n right → AllSound n out
  pub low : (n : ℕ) → AllFrom n (firsts left) → AllFrom n (firsts right) → AllFrom n (firsts out)

-- the first rank from `next` on that no run covers, where the runs rise
abbrev pub first_gap : ℕ → List Run → ℕ
first_gap next [] = next
first_gap next (run ∷ runs) = cond (nat_lt next run.first) next (first_gap (max next run.end) runs)
