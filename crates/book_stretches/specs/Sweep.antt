-- How the ranks are told, stretch by stretch.
use Rattle.std.specs.Prelude.{◌≡◌, ℕ, ◌<◌, ◌≤◌, ◌^◌, ◌⊎◌, List, length, slice_get, slice_index_or, [], Option, Some, None, Result, Ok, Err, ⊤}
use Rattle.bound_specs.specs.Spec.{SpecFile, ranks}
use Rattle.rank_facts.specs.Swap.{leads_in}
use Rattle.fact_books.specs.declared.run.Run.{Run}
use Rattle.fact_books.specs.declared.run.Tag.{Tag}
use Rattle.fact_books.specs.declared.run.Tag.TheVariants.{Ran, Swap}
use Rattle.fact_books.specs.Entries.{Told}
use Rattle.fact_books.specs.Runs.{Table as Outcomes, AllSound}
use Rattle.fact_books.specs.Books.{Contents}
use Rattle.fact_books.specs.Values.{HasOne}
use Rattle.fact_books.specs.Sweep.{IsIn, IsStretch}
use Rattle.class_stretches.specs.Stretches.{MayCome, class_at, end_of, with_class}
use Rattle.book_stretches.specs.declared.error.TellError.{TellError}
use Rattle.book_stretches.specs.declared.error.TellError.TheVariants.{NoMemory}
use Rattle.book_stretches.specs.declared.judging.Vote.{Vote}
use Rattle.book_stretches.specs.declared.judging.Vote.TheVariants.{Table, Class}
use Rattle.book_stretches.specs.declared.judging.Verdict.{Verdict}
use Rattle.book_stretches.specs.declared.judging.Verdict.TheVariants.{Nothing, One, Several}
use Rattle.book_stretches.specs.declared.telling.Telling.{Telling}
use Rattle.book_stretches.specs.Telling.{IsToldAt, Tells, with_facts}

-- the book that is told
abbrev pub book_of : Telling → Contents
book_of x = with_facts x.spec.now x.outcomes.now x.runs.now

-- the rank behind the last one that is told
abbrev pub end : Telling → ℕ
end x = end_of x.stretches.list

-- each number of the book's table whose class is known is that of the class's outcome
abbrev pub AreKnown : List (Option ℕ) → Outcomes → List Told → Type 0
AreKnown classes outcomes told = (n c : ℕ) → slice_get classes n ≡ Some (Some c) → slice_get told c ≡ Some (slice_index_or outcomes n [])

-- all ranks up to here are told
pub record IsTelling (x : Telling) : Type 0 where
  pub many : length x.told ≡ x.stretches.classes
  pub few : length x.told < 2 ^ 32
  pub count : length x.classes.items ≡ length x.outcomes.now
  pub known : AreKnown x.classes.items x.outcomes.now x.told
  pub told : (r : ℕ) → r < end x → IsToldAt (book_of x) x.told r (class_at x.stretches.list r)

-- nothing is told yet
pub record IsBegun (file : SpecFile) (outcomes : Outcomes) (runs : List Run) (x : Telling) : Type 0 where
  pub telling : IsTelling x
  pub none : end x ≡ 0
  pub file_is : x.spec.now ≡ file
  pub outcomes_are : x.outcomes.now ≡ outcomes
  pub runs_are : x.runs.now ≡ runs

-- the same book is told
pub record IsOfSame (x y : Telling) : Type 0 where
  pub file : y.spec.now ≡ x.spec.now
  pub outcomes : y.outcomes.now ≡ x.outcomes.now
  pub runs : y.runs.now ≡ x.runs.now

pub record HasMovedTo (to : ℕ) (x y : Telling) : Type 0 where
  pub telling : IsTelling y
  pub same : IsOfSame x y
  pub there : end y ≡ to

-- it has moved on, and not past here
pub record HasMovedOn (to : ℕ) (x y : Telling) : Type 0 where
  pub telling : IsTelling y
  pub same : IsOfSame x y
  pub on : end x < end y
  pub few : end y ≤ to

-- these runs say all of the next ranks, up to here
pub record SayAll (x : Telling) (active : List Run) (until : ℕ) : Type 0 where
  pub sound : AllSound (length x.outcomes.now) active
  pub says : IsStretch (book_of x).facts x.outcomes.now active (end x) until
  pub few : end x ≤ until
  pub inside : until ≤ ranks x.spec.now.run

-- ---- what runs give a rank

-- what a tag gives a rank: its own outcome, or each value of the rank to which its swap leads
abbrev pub Gives : Telling → ℕ → Tag → Told → Type 0
Gives x r (Ran n) o = o ≡ slice_index_or x.outcomes.now n []
Gives x r (Swap k) o = (below : ℕ) × (leads_in x.spec.now.run r k ≡ Some below) × Tells (book_of x) below o

-- one of the runs gives it
abbrev pub AnyGives : Telling → ℕ → List Run → Told → Type 0
AnyGives x r active o = (run : Run) × IsIn run active × Gives x r run.tag o

-- the outcome that a vote is for
abbrev pub said : Telling → Vote → Option Told
said x (Table n) = slice_get x.outcomes.now n
said x (Class c) = slice_get x.told c

abbrev pub IsSaid : Telling → Vote → Type 0
IsSaid x v = (o : Told) × (said x v ≡ Some o)

-- it is for an outcome, if there is one
abbrev pub IsKnown : Telling → Option Vote → Type 0
IsKnown x None = Unit {0}
IsKnown x (Some v) = IsSaid x v

abbrev pub HasVote : Telling → Verdict → Type 0
HasVote x Nothing = Unit {0}
HasVote x (One v) = IsSaid x v
HasVote x Several = Unit {0}

-- the tag gives the rank nothing, or what the vote is for and nothing else
abbrev pub IsVoteOf : Telling → ℕ → Tag → Option Vote → Type 0
IsVoteOf x r tag None = (o : Told) → Gives x r tag o → ⊥
IsVoteOf x r tag (Some v) = (o : Told) × (said x v ≡ Some o) × Gives x r tag o × ((p : Told) → Gives x r tag p → p ≡ o)

-- the runs give the rank nothing, what the vote is for and nothing else, or several outcomes
abbrev pub IsVerdict : Telling → ℕ → List Run → Verdict → Type 0
IsVerdict x r active Nothing = (o : Told) → AnyGives x r active o → ⊥
IsVerdict x r active (One v) = (o : Told) × (said x v ≡ Some o) × AnyGives x r active o × ((p : Told) → AnyGives x r active p → p ≡ o)
IsVerdict x r active Several = (o : Told) × (p : Told) × AnyGives x r active o × AnyGives x r active p × (o ≡ p → ⊥)

-- the verdict with one more vote
abbrev pub IsWith : Telling → Verdict → Option Vote → Verdict → Type 0
IsWith x found None v = v ≡ found
IsWith x Nothing (Some vote) v = v ≡ One vote
IsWith x (One other) (Some vote) v =
    ((v ≡ One other) × (said x vote ≡ said x other)) ⊎ ((v ≡ Several) × (said x vote ≡ said x other → ⊥))
IsWith x Several (Some vote) v = v ≡ Several

-- ---- what is told next

-- the next ranks, up to here, have no value
pub record HaveNothing (x : Telling) (to : ℕ) : Type 0 where
  pub some : end x < to
  pub each : (r : ℕ) → end x ≤ r → r < to → (o : Told) → Tells (book_of x) r o → ⊥

-- they have the one value that the vote is for
pub record HaveOne (x : Telling) (vote : Vote) (to : ℕ) : Type 0 where
  pub some : end x < to
  pub outcome : Told
  pub is : said x vote ≡ Some outcome
  pub each : (r : ℕ) → end x ≤ r → r < to → HasOne (book_of x).facts (leads_in (book_of x).file.run) r outcome

-- the same is told, and there is room for ranks of a class: one that is known, the next one, or none
pub record HasRoom (x y : Telling) (class : Option ℕ) : Type 0 where
  pub same : IsOfSame x y
  pub stretches : y.stretches ≡ x.stretches
  pub kept : (c : ℕ) (o : Told) → slice_get x.told c ≡ Some o → slice_get y.told c ≡ Some o
  pub may : MayCome x.stretches.classes class
  pub many : length y.told ≡ with_class x.stretches.classes class
  pub few : length y.told < 2 ^ 32
  pub count : length y.classes.items ≡ length y.outcomes.now
  pub known : AreKnown y.classes.items y.outcomes.now y.told

-- the class tells what has the number in the book's table
pub record HasClass (x y : Telling) (n c : ℕ) : Type 0 where
  pub room : HasRoom x y (Some c)
  pub at : slice_get y.told c ≡ Some (slice_index_or x.outcomes.now n [])

-- the same, where memory alone was wanting
abbrev pub IsToldAs : {E : Type 0} → Result ⊤ E → Result ⊤ TellError → Type 0
IsToldAs (Ok done) result = result ≡ Ok done
IsToldAs (Err e) result = result ≡ Err NoMemory
