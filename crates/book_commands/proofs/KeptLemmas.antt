-- What is kept of books: their specs and their reports.
use Rattle.std.proofs.Common.{◌≡◌, refl, sym, ap, subst, ℕ, zero, suc, ◌++◌, List, [], ◌∷◌, length, Some, slice_get}
use Rattle.std.specs.List.{AllZip}
use Rattle.bound_specs.specs.Spec.{SpecFile, ranks}
use Rattle.rank_facts.specs.Swap.{leads_in}
use Rattle.fact_books.specs.Entries.{Told}
use Rattle.fact_books.specs.Books.{Contents}
use Rattle.book_commands.specs.Kept.{HasReport, IsKept, AreKept, IsOwn}
use Rattle.book_commands.proofs.ReportLemmas.{values-own}

-- a book's report is of its spec
pub kept-own : (book : Contents) (spec : SpecFile) (report : List Told) → IsKept book spec report → IsOwn spec report
kept-own book spec report kept =
    let of-file : IsOwn book.file report = record {
      count = kept.has_report.1.count_is;
      own = values-own book.file.run book.facts (leads_in book.file.run) (ranks book.file.run) report kept.recordable kept.has_report.1;
    } in
    subst (λ s. IsOwn s report) (sym kept.spec_is) of-file

-- there are as many specs as reports
pub kept-many : (books : List Contents) (specs : List SpecFile) (reports : List (List Told)) → AreKept books specs reports → length specs ≡ length reports
kept-many [] [] [] kept = refl
kept-many [] [] (r ∷ rs) kept = absurd kept
kept-many [] (s ∷ ss) reports kept = absurd kept
kept-many (b ∷ bs) [] reports kept = absurd kept
kept-many (b ∷ bs) (s ∷ ss) [] kept = absurd kept
kept-many (b ∷ bs) (s ∷ ss) (r ∷ rs) kept = ap suc (kept-many bs ss rs kept.1)

some-same : {A : Type 0} (a b : A) → Some a ≡ Some b → a ≡ b
some-same a b e = cc

-- the spec and the report at a place are those of the book there
pub kept-at : (books : List Contents) (specs : List SpecFile) (reports : List (List Told)) → AreKept books specs reports → (n : ℕ) (spec : SpecFile) (report : List Told)
    → slice_get specs n ≡ Some spec → slice_get reports n ≡ Some report → (there : Contents) × (slice_get books n ≡ Some there) × IsKept there spec report
kept-at [] [] [] kept n spec report is has = cc
kept-at [] [] (r ∷ rs) kept n spec report is has = absurd kept
kept-at [] (s ∷ ss) reports kept n spec report is has = absurd kept
kept-at (b ∷ bs) [] reports kept n spec report is has = absurd kept
kept-at (b ∷ bs) (s ∷ ss) [] kept n spec report is has = absurd kept
kept-at (b ∷ bs) (s ∷ ss) (r ∷ rs) kept zero spec report is has =
    let its-report = subst (λ x. IsKept b s x) (some-same r report has) kept.0 in
    (b, refl, subst (λ x. IsKept b x report) (some-same s spec is) its-report)
kept-at (b ∷ bs) (s ∷ ss) (r ∷ rs) kept (suc n) spec report is has = kept-at bs ss rs kept.1 n spec report is has

-- one book more
pub kept-push : (books : List Contents) (specs : List SpecFile) (reports : List (List Told)) (book : Contents) (spec : SpecFile) (report : List Told)
    → AreKept books specs reports → IsKept book spec report → AreKept (books ++ book ∷ []) (specs ++ spec ∷ []) (reports ++ report ∷ [])
kept-push [] [] [] book spec report kept is = (is, tt)
kept-push [] [] (r ∷ rs) book spec report kept is = absurd kept
kept-push [] (s ∷ ss) reports book spec report kept is = absurd kept
kept-push (b ∷ bs) [] reports book spec report kept is = absurd kept
kept-push (b ∷ bs) (s ∷ ss) [] book spec report kept is = absurd kept
kept-push (b ∷ bs) (s ∷ ss) (r ∷ rs) book spec report kept is = (kept.0, kept-push bs ss rs book spec report kept.1 is)

-- each book has its report
pub kept-reports : (books : List Contents) (specs : List SpecFile) (reports : List (List Told)) → AreKept books specs reports → AllZip HasReport books reports
kept-reports [] [] [] kept = tt
kept-reports [] [] (r ∷ rs) kept = absurd kept
kept-reports [] (s ∷ ss) reports kept = absurd kept
kept-reports (b ∷ bs) [] reports kept = absurd kept
kept-reports (b ∷ bs) (s ∷ ss) [] kept = absurd kept
kept-reports (b ∷ bs) (s ∷ ss) (r ∷ rs) kept = (kept.0.has_report, kept-reports bs ss rs kept.1)
