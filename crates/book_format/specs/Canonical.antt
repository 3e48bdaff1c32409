-- Making the longest runs: runs in the order of what they say, and those that say the same and overlap or touch as one; where sound runs come one
-- behind the other, they are joined in that order.
use Rattle.std.specs.Prelude.{◌≡◌, ℕ, ◌+◌, Bool, true, false, ◌<◌, ◌≤◌, ◌||◌, List, [], ◌∷◌, ◌++◌, length, take, slice_index_or}
use Rattle.std.proofs.Common.{Ordering, nat_cmp}
use Rattle.std.specs.Ordering.{on, then_cmp}
use Rattle.std.specs.Cmp.{IsTotalOrder, nat_cmp_total, on_total, then_total}
use Rattle.std.specs.List.{list_any}
use Rattle.fact_books.specs.declared.run.Run.{Run}
use Rattle.fact_books.specs.Entries.{Entry}
use Rattle.fact_books.specs.Runs.{Table, has, AllSound}
use Rattle.fact_books.specs.Sweep.{IsIn}
use Rattle.book_format.specs.Forms.{Rises, tag_kind, tag_number}

-- by what runs say, outcomes before swaps, then by number, and then by the first ranks
abbrev pub tag_cmp : Run → Run → Ordering
tag_cmp = then_cmp (on (λ (run : Run). tag_kind run.tag) nat_cmp) (then_cmp (on (λ (run : Run). tag_number run.tag) nat_cmp) (on (λ
    (run : Run). run.first) nat_cmp))

pub tag_total : IsTotalOrder tag_cmp
tag_total = then_total (on_total (λ (run : Run). tag_kind run.tag) nat_cmp_total)
    (then_total (on_total (λ (run : Run). tag_number run.tag) nat_cmp_total) (on_total (λ (run : Run). run.first) nat_cmp_total))

-- both lists of runs say the same of each rank, by any table
abbrev pub SayTheSame : List Run → List Run → Type 0
SayTheSame runs others = (t : Table) (e : Entry) → list_any (has t e) runs ≡ list_any (has t e) others

-- each run has a rank, and its outcome is in some table
abbrev pub AreSound : List Run → Type 0
AreSound runs = (n : ℕ) × AllSound n runs

-- where these runs are sound over so many outcomes, the others are too
abbrev pub StaySound : List Run → List Run → Type 0
StaySound runs others = (n : ℕ) → AllSound n runs → AllSound n others

-- it stands up to the other by what they say, and then by the first rank
pub record IsTagLe (run other : Run) : Type 0 where
  pub kinds : tag_kind run.tag ≤ tag_kind other.tag
  pub numbers : tag_kind run.tag ≡ tag_kind other.tag → tag_number run.tag ≤ tag_number other.tag
  pub firsts : run.tag ≡ other.tag → run.first ≤ other.first

abbrev pub IsTagSorted : List Run → Type 0
IsTagSorted runs = (i j : ℕ) (d : Run) → i ≤ j → j < length runs → IsTagLe (slice_index_or runs i d) (slice_index_or runs j d)

-- it stands before the other by what they say, and where they say the same they neither overlap nor touch
pub record IsPast (run other : Run) : Type 0 where
  pub kinds : tag_kind run.tag ≤ tag_kind other.tag
  pub numbers : tag_kind run.tag ≡ tag_kind other.tag → tag_number run.tag ≤ tag_number other.tag
  pub apart : run.tag ≡ other.tag → run.end < other.first

-- the first i runs are joined: those that are done, and one that may still grow
pub record IsJoining (runs : List Run) (i : ℕ) (out : List Run) (current : Run) : Type 0 where
  pub apart : Rises IsPast out
  pub before : (x : Run) → IsIn x out → IsPast x current
  pub facts : (t : Table) (e : Entry) → (list_any (has t e) out || has t e current) ≡ list_any (has t e) (take i runs)
  pub sound : (n : ℕ) → AllSound n runs → AllSound n (out ++ current ∷ [])
  pub rest : (j : ℕ) (d : Run) → i ≤ j → j < length runs → IsTagLe current (slice_index_or runs j d)

-- whether the run goes on where the current one is or ends, and says the same
pub record IsTouching (current run : Run) (answer : Bool) : Type 0 where
  pub yes : answer ≡ true → (current.tag ≡ run.tag) × (run.first ≤ current.end)
  pub no : answer ≡ false → current.tag ≡ run.tag → current.end < run.first

-- ---- sound runs that come one behind the other

-- each run begins where the one before ends, or behind it
abbrev pub AreInTurn : List Run → Type 0
AreInTurn runs = (i : ℕ) (d : Run) → i + 1 < length runs → (slice_index_or runs i d).end ≤ (slice_index_or runs (i + 1) d).first

-- the run begins before the other and is over where that begins, and where they say the same they do not touch
pub record IsBefore (run other : Run) : Type 0 where
  pub firsts : run.first < other.first
  pub ends : run.end ≤ other.first
  pub apart : run.tag ≡ other.tag → run.end < other.first

-- the first i runs are joined: those that are done, and one that may still grow and ends where the last of them does
pub record IsJoiningInTurn (runs : List Run) (i : ℕ) (out : List Run) (current : Run) : Type 0 where
  pub some : 1 ≤ i
  pub apart : Rises IsBefore out
  pub before : (x : Run) → IsIn x out → IsBefore x current
  pub facts : (t : Table) (e : Entry) → (list_any (has t e) out || has t e current) ≡ list_any (has t e) (take i runs)
  pub sound : (n : ℕ) → AllSound n runs → AllSound n (out ++ current ∷ [])
  pub last : (k : ℕ) (d : Run) → k + 1 ≡ i → current.end ≡ (slice_index_or runs k d).end
