-- How ranks are counted to classes, and their runs put to them, stretch by stretch.
use Rattle.std.specs.Prelude.{ℕ, zero, suc, ◌+◌, ◌-◌, ◌≤◌, Option, Some, None, List, [], ◌∷◌, ◌++◌}
use Rattle.class_stretches.specs.declared.stretch.Stretch.{Stretch}
use Rattle.class_stretches.specs.Stretches.{AreInOrder}
use Rattle.class_stretches.specs.declared.tally.Tally.{Tally}
use Rattle.class_stretches.specs.declared.rank_run.RankRun.{RankRun}

-- the ranks from here up to an end are counted to class number n, the next one or one that is there
abbrev pub with_ranks : List Tally → ℕ → ℕ → ℕ → List Tally
with_ranks [] n low end = record { least = low; count = end - low } ∷ []
with_ranks (t ∷ ts) zero low end = record { least = t.least; count = t.count + (end - low) } ∷ ts
with_ranks (t ∷ ts) (suc n) low end = t ∷ with_ranks ts n low end

abbrev pub with_ranks_of : List Tally → Option ℕ → ℕ → ℕ → List Tally
with_ranks_of ts None low end = ts
with_ranks_of ts (Some n) low end = with_ranks ts n low end

-- a stretch that begins here is counted to its class, if that is known
abbrev pub counted : List Tally → ℕ → Stretch → List Tally
counted ts low s = with_ranks_of ts s.class low s.end

-- stretches that begin here are counted
abbrev pub counted_all : List Tally → ℕ → List Stretch → List Tally
counted_all ts low [] = ts
counted_all ts low (s ∷ ss) = counted_all (counted ts low s) s.end ss

-- none has more ranks than this
abbrev pub AreBelow : ℕ → List Tally → Type 0
AreBelow low [] = Unit {0}
AreBelow low (t ∷ ts) = (t.count ≤ low) × AreBelow low ts

-- the stretches are in the order of their classes' numbers, however many there are in the end
abbrev pub HasOrder : List Stretch → Type 0
HasOrder ss = (end : ℕ) × AreInOrder 0 ss end

-- a run is put to class number n, the next one or one that is there
abbrev pub with_run : List (List RankRun) → ℕ → RankRun → List (List RankRun)
with_run [] n run = (run ∷ []) ∷ []
with_run (runs ∷ all) zero run = (runs ++ run ∷ []) ∷ all
with_run (runs ∷ all) (suc n) run = runs ∷ with_run all n run

abbrev pub with_run_of : List (List RankRun) → Option ℕ → RankRun → List (List RankRun)
with_run_of all None run = all
with_run_of all (Some n) run = with_run all n run

-- the ranks of a stretch that begins here are put to its class, if that is known
abbrev pub with_runs : List (List RankRun) → ℕ → Stretch → List (List RankRun)
with_runs all low s = with_run_of all s.class (record { first = low; end = s.end })
