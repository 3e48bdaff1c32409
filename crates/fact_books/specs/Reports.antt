-- What a report may be, and the report as a function: one pass over the ranks in rising order.
use Rattle.std.specs.Prelude.{ℕ, zero, suc, ◌≤◌, ◌==◌, ◌&&◌, ◌++◌, ◌∷◌, Bool, true, false, cond, nat_lt, List, [], Option, Some, None}
use Rattle.std.specs.Prelude.{Result, Ok, Err, length}
use Rattle.std.specs.Ordering.{eq_by_cmp}
use Rattle.std.specs.FinSet.{items}
use Rattle.bound_specs.specs.Spec.{ranks}
use Rattle.transcripts.specs.Compact.{outcome_cmp}
use Rattle.rank_facts.specs.Swap.{leads_in}
use Rattle.fact_books.specs.declared.error.ReportError.{ReportError}
use Rattle.fact_books.specs.declared.error.ReportError.TheVariants.{TooMany, Missing, Clash}
use Rattle.fact_books.specs.declared.error.TheConstants.{MAX_REPORTED}
use Rattle.fact_books.specs.Entries.{Told, Entry, FactSet}
use Rattle.fact_books.specs.Books.{Contents}
use Rattle.fact_books.specs.Values.{Leads, AreValues, IsNotReported}
use Rattle.fact_books.specs.Sweep.{vote}

-- what a book may be reported as
abbrev pub IsReportOf : Contents → Result (List Told) ReportError → Type 0
IsReportOf book (Ok values) = (ranks book.file.run ≤ MAX_REPORTED) × AreValues book.facts (leads_in book.file.run) (ranks book.file.run) values
IsReportOf book (Err error) = IsNotReported book error

-- ---- one pass

-- what an entry gives the next rank
abbrev pub vote_at : Leads → List Told → Entry → Option Told
vote_at leads done e = elim (e.0 == length done) [ true ↦ vote leads done (length done) e.1 | false ↦ None ]

abbrev pub votes : Leads → List Told → List Entry → List Told
votes leads done [] = []
votes leads done (e ∷ es) = elim (vote_at leads done e) [ None ↦ votes leads done es | Some x ↦ x ∷ votes leads done es ]

abbrev pub all_same : Told → List Told → Bool
all_same x [] = true
all_same x (y ∷ ys) = eq_by_cmp outcome_cmp x y && all_same x ys

-- the report over so many more ranks
abbrev pub report_from : FactSet → Leads → List Told → ℕ → Result (List Told) ReportError
report_from s leads done zero = Ok done
report_from s leads done (suc n) =
    elim (votes leads done (items s)) [
      | [] ↦ Err (Missing (length done))
      | x ∷ xs ↦ elim (all_same x xs) [ true ↦ report_from s leads (done ++ x ∷ []) n | false ↦ Err (Clash (length done)) ]
    ]

-- the report of a book
abbrev pub report_of : Contents → Result (List Told) ReportError
report_of book = cond (nat_lt MAX_REPORTED (ranks book.file.run)) (Err TooMany) (report_from book.facts (leads_in book.file.run) [] (ranks book.file.run))
