-- The report's pass over runs: which runs say something of a stretch of ranks, and what they give there.
use Rattle.std.specs.Prelude.{◌≡◌, ℕ, zero, suc, Result, Ok, Err, ◌+◌, ◌<◌, ◌≤◌, Bool, true, ◌||◌, List, [], ◌∷◌, length, map, take, drop, slice_index_or}
use Rattle.std.specs.Prelude.{Option, Some, None, ◌⊎◌}
use Rattle.std.specs.List.{list_any}
use Rattle.std.specs.Ordering.{eq_by_cmp}
use Rattle.std.specs.FinSet.{contains}
use Rattle.perm_ranks.specs.Words.{all_words, word_at}
use Rattle.perm_ranks.specs.Swapped.{exchanged}
use Rattle.rank_facts.specs.Swap.{placed_at}
use Rattle.rank_facts.specs.declared.fact.Fact.{Fact}
use Rattle.rank_facts.specs.declared.fact.Fact.TheVariants.{Ran as RanFact, Swap as SwapFact}
use Rattle.fact_books.specs.declared.run.Run.{Run}
use Rattle.fact_books.specs.declared.run.Tag.{Tag}
use Rattle.fact_books.specs.declared.run.Tag.TheVariants.{Ran, Swap}
use Rattle.fact_books.specs.declared.leading.Lead.{Lead}
use Rattle.fact_books.specs.declared.leading.Lead.TheVariants.{Value, From, Nowhere}
use Rattle.fact_books.specs.declared.judging.Verdict.{Verdict}
use Rattle.fact_books.specs.declared.judging.Verdict.TheVariants.{Nothing, One, Several}
use Rattle.fact_books.specs.declared.error.ReportError.{ReportError}
use Rattle.fact_books.specs.declared.error.ReportError.TheVariants.{TooMany, Missing, Clash, NoMemory}
use Rattle.fact_books.specs.Entries.{Told, Entry, FactSet, fact_cmp}
use Rattle.fact_books.specs.Runs.{Table, fact_in, has, firsts, AllTo, AllSound}
use Rattle.fact_books.specs.Values.{Leads, HasFewSessions, HasOne, IsMissing, IsClash}

-- the rank that an exchange leads to; between lines nothing leads
abbrev pub leads_of : Option (List ℕ) → Leads
leads_of None r k = None
leads_of (Some counts) r k = placed_at (all_words counts) (exchanged k (word_at counts r))

-- a rank to which an exchange leads is smaller
abbrev pub LeadsDown : Leads → Type 0
LeadsDown leads = (r k below : ℕ) → leads r k ≡ Some below → below < r

-- the values of the ranks so far
abbrev pub IsDone : FactSet → Leads → List Told → Type 0
IsDone s leads done = (r : ℕ) → r < length done → HasOne s leads r (slice_index_or done r [])

-- what a fact of the next rank gives, by the values so far
abbrev pub vote : Leads → List Told → ℕ → Fact → Option Told
vote leads done r (RanFact o) = Some o
vote leads done r (SwapFact k) = elim (leads r k) [ None ↦ None | Some below ↦ Some (slice_index_or done below []) ]

-- a recorded fact of the next rank gives o
abbrev pub IsVote : FactSet → Leads → List Told → Told → Type 0
IsVote s leads done o = (f : Fact) × (contains s (length done, f) ≡ true) × (vote leads done (length done) f ≡ Some o)

-- the outcomes with these numbers
abbrev pub values_of : Table → List ℕ → List Told
values_of t numbers = map (λ n. slice_index_or t n []) numbers

abbrev pub AllBelow : ℕ → List ℕ → Type 0
AllBelow n [] = Unit {0}
AllBelow n (x ∷ xs) = (x < n) × AllBelow n xs

-- what a report keeps: each number is one of an outcome, and the values have few sessions
pub record IsReport (outcomes : Table) (numbers : List ℕ) : Type 0 where
  pub numbered : AllBelow (length outcomes) numbers
  pub few : HasFewSessions (values_of outcomes numbers)

-- ---- where runs lead

-- at each of these ranks the exchange leads just as far beyond b as the rank is beyond the first
abbrev pub LeadsFrom : Leads → ℕ → ℕ → ℕ → ℕ → Type 0
LeadsFrom leads first last k b = (i : ℕ) → first + i < last → leads (first + i) k ≡ Some (b + i)

abbrev pub LeadsNowhere : Leads → ℕ → ℕ → ℕ → Type 0
LeadsNowhere leads first last k = (i : ℕ) → first + i < last → leads (first + i) k ≡ None

-- what a tag gives at these ranks: one outcome, the values of the ranks from another one on, or nothing
abbrev pub IsLead : Leads → ℕ → ℕ → Tag → Lead → Type 0
IsLead leads first last tag (Value n) = tag ≡ Ran n
IsLead leads first last tag (From b) = (k : ℕ) × (tag ≡ Swap k) × LeadsFrom leads first last k b
IsLead leads first last tag Nowhere = (k : ℕ) × (tag ≡ Swap k) × LeadsNowhere leads first last k

-- each run has its lead
abbrev pub AreLeads : Leads → ℕ → ℕ → List Run → List Lead → Type 0
AreLeads leads first last [] [] = Unit {0}
AreLeads leads first last [] (l ∷ ls) = ⊥
AreLeads leads first last (run ∷ runs) [] = ⊥
AreLeads leads first last (run ∷ runs) (l ∷ ls) = IsLead leads first last run.tag l × AreLeads leads first last runs ls

-- ---- verdicts

abbrev pub IsIn : {A : Type 0} → A → List A → Type 0
IsIn a [] = ⊥
IsIn a (x ∷ xs) = (a ≡ x) ⊎ IsIn a xs

-- what a tag gives at a rank, by the values so far
abbrev pub tag_vote : Table → Leads → List Told → ℕ → Tag → Option Told
tag_vote t leads done r tag = vote leads done r (fact_in t tag)

abbrev pub IsVerdict : Table → (Tag → Option Told) → List Run → Verdict → Type 0
IsVerdict t votes active Nothing = (run : Run) → IsIn run active → votes run.tag ≡ None
IsVerdict t votes active (One n) =
    (n < length t) × ((run : Run) × IsIn run active × (votes run.tag ≡ Some (slice_index_or t n [])))
    × ((run : Run) (o : Told) → IsIn run active → votes run.tag ≡ Some o → o ≡ slice_index_or t n [])
IsVerdict t votes active Several =
    (run : Run) × (other : Run) × (o : Told) × (p : Told) × IsIn run active × IsIn other active × (votes run.tag ≡ Some o) × (votes other.tag ≡ Some p) ×
    (o ≡ p → ⊥)

-- the verdict with one more vote
abbrev pub IsWith : Table → Verdict → Option ℕ → Verdict → Type 0
IsWith t Nothing None v = v ≡ Nothing
IsWith t Nothing (Some n) v = v ≡ One n
IsWith t (One m) None v = v ≡ One m
IsWith t (One m) (Some n) v =
    ((v ≡ One m) × (slice_index_or t n [] ≡ slice_index_or t m [])) ⊎ ((v ≡ Several) × (slice_index_or t n [] ≡ slice_index_or t m [] → ⊥))
IsWith t Several vote v = v ≡ Several

-- the verdict's number is one of n
abbrev pub IsNamed : ℕ → Verdict → Type 0
IsNamed n Nothing = Unit {0}
IsNamed n (One m) = m < n
IsNamed n Several = Unit {0}

-- the one value's number, or the stop
abbrev pub IsOneOf : Verdict → ℕ → Result ℕ ReportError → Type 0
IsOneOf (One n) r result = result ≡ Ok n
IsOneOf Nothing r result = result ≡ Err (Missing r)
IsOneOf Several r result = result ≡ Err (Clash r)

abbrev pub OnlyRan : List Run → Type 0
OnlyRan active = (run : Run) → IsIn run active → (n : ℕ) × (run.tag ≡ Ran n)

-- how far one verdict goes: to the next rank, or further where only outcomes are said
abbrev pub GoesTo : List Run → ℕ → ℕ → ℕ → Type 0
GoesTo active rank until last = (rank < last) × (last ≤ until) × ((last ≡ rank + 1) ⊎ OnlyRan active)

abbrev pub copies : ℕ → ℕ → List ℕ
copies n zero = []
copies n (suc k) = n ∷ copies n k

-- ---- stretches

-- the run says this fact
abbrev pub states : Table → Fact → Run → Bool
states t f run = eq_by_cmp fact_cmp f (fact_in t run.tag)

-- at each rank of the stretch the facts are what these runs say
abbrev pub IsStretch : FactSet → Table → List Run → ℕ → ℕ → Type 0
IsStretch s t active low until = (r : ℕ) → low ≤ r → r < until → (f : Fact) → contains s (r, f) ≡ list_any (states t f) active

-- why the pass stops
abbrev pub IsStop : FactSet → Leads → ℕ → ReportError → Type 0
IsStop s leads count TooMany = ⊥
IsStop s leads count (Missing r) = IsMissing s leads count r
IsStop s leads count (Clash r) = IsClash s leads count r
IsStop s leads count NoMemory = Unit {0}

-- wherever these runs say all of the stretch, the new numbers are those of the values, if the old ones are
abbrev pub FillsStretch : Table → Leads → List Run → ℕ → List ℕ → List ℕ → Type 0
FillsStretch t leads active until old new = (s : FactSet) → IsStretch s t active (length old) until → IsDone s leads (values_of t old)
    → IsDone s leads (values_of t new)

abbrev pub StopsStretch : Table → Leads → List Run → ℕ → List ℕ → ReportError → Type 0
StopsStretch t leads active until old e =
    (s : FactSet) (count : ℕ) → until ≤ count → IsStretch s t active (length old) until → IsDone s leads (values_of t old) → IsStop s leads count e

-- each of the runs covers the rank
abbrev pub AllCover : ℕ → List Run → Type 0
AllCover r [] = Unit {0}
AllCover r (run ∷ runs) = ((run.first ≤ r) × (r < run.end)) × AllCover r runs

-- each of the runs reaches so far
abbrev pub AllReach : ℕ → List Run → Type 0
AllReach until [] = Unit {0}
AllReach until (run ∷ runs) = (until ≤ run.end) × AllReach until runs

-- from the rank on, the facts are those of the runs in hand and of the rest
abbrev pub IsSplit : Table → List Run → List Run → List Run → ℕ → Type 0
IsSplit t runs active rest rank = (e : Entry) → rank ≤ e.0 → (list_any (has t e) active || list_any (has t e) rest) ≡ list_any (has t e) runs

-- where the sweep stands
pub record IsSweeping (t : Table) (runs : List Run) (rank : ℕ) (active : List Run) (next : ℕ) : Type 0 where
  pub bound : next ≤ length runs
  pub sound : AllSound (length t) active
  pub began : AllTo rank (firsts active)
  pub facts : IsSplit t runs active (drop next runs) rank

-- of the first i runs those in hand are the ones that still cover the rank
pub record IsKeeping (active : List Run) (i : ℕ) (now : List Run) (rank : ℕ) : Type 0 where
  pub cover : AllCover rank now
  pub sound : (n : ℕ) → AllSound n active → AllSound n now
  pub facts : (t : Table) (e : Entry) → rank ≤ e.0 → list_any (has t e) now ≡ list_any (has t e) (take i active)

-- and of the rest those up to `after`
pub record IsAdmitting (active runs now : List Run) (next after rank : ℕ) : Type 0 where
  pub bound : after ≤ length runs
  pub cover : AllCover rank now
  pub sound : (n : ℕ) → AllSound n active → AllSound n runs → AllSound n now
  pub facts : (t : Table) (all : List Run) → IsSplit t all active (drop next runs) rank → IsSplit t all now (drop after runs) rank

-- the first i runs in hand, and the rest, stay the same up to this rank
pub record IsBorder (rank count until : ℕ) (active runs : List Run) (next i : ℕ) : Type 0 where
  pub above : rank < until
  pub few : until ≤ count
  pub reach : AllReach until (take i active)
  pub rest : (d : Run) → next < length runs → until ≤ (slice_index_or runs next d).first
