-- Reports of accepted files, judgements, and the lines of a verdict.
use Rattle.std.proofs.Common.{◌≡◌, ◌∙◌, refl, sym, ap, subst, ℕ, zero, suc, ◌+◌, ◌-◌, ◌<◌, ◌++◌, Bool, true, false, List, [], ◌∷◌, length, get_or, take, Option, Ok}
use Rattle.std.proofs.Common.{arith}
use Rattle.std.proofs.lemmas.List.{append-nil, take_more}
use Rattle.std.specs.List.{AllZip}
use Rattle.bound_specs.specs.Spec.{SpecFile}
use Rattle.transcripts.specs.Counted.{Wrote, Stopped}
use Rattle.transcripts.specs.declared.counted.Counted.{Counted}
use Rattle.transcripts.proofs.Writing.{stopped-append, stopped-after}
use Rattle.fact_books.specs.Entries.{Told}
use Rattle.fact_books.specs.Books.{Contents}
use Rattle.fact_books.proofs.Recordable.{whichever}
use Rattle.accepted_outputs.specs.Judging.{IsVerdict}
use Rattle.accepted_outputs.proofs.Places.{zip-push}
use Rattle.book_commands.specs.declared.judging.Judgement.{Judgement}
use Rattle.book_commands.specs.declared.judging.JudgeFault.{JudgeFault}
use Rattle.book_commands.specs.declared.judging.JudgeFault.TheVariants.{Book, Accepted, NoMemory, Write}
use Rattle.book_commands.specs.Joining.{Files, IsFileBook, bytes_at}
use Rattle.book_commands.specs.Kept.{HasReport, IsKept, AreKept}
use Rattle.book_commands.specs.Nearest.{IsAskedBeneath}
use Rattle.book_commands.specs.Judging.{AreBooks, AreFilesKept, AreReports, IsAnswer, IsFileReport, IsJudgement, IsNotAccepted, IsNotJudged, difference_line}
use Rattle.book_commands.specs.Judging.{difference_lines, verdict_text}
use Rattle.book_commands.proofs.KeptLemmas.{kept-push, kept-reports}

-- ---- lines

module _ {W : Type 0} (contents : W → Option (List ℕ)) (old new : Counted W) (ds : List (ℕ × ℕ)) where
  lines-within : (n more m : ℕ) → m ≡ more + n → Stopped contents old new (difference_lines ds n) → Stopped contents old new (difference_lines ds m)
  lines-within n zero m e h = let same : n ≡ m = omega (arith, e) in subst (λ k. Stopped contents old new (difference_lines ds k)) same h
  lines-within n (suc more) zero e h = absurd (omega (arith, e))
  lines-within n (suc more) (suc m) e h = stopped-append contents old new _ _ (lines-within n more m (omega (arith, e)) h)

  -- it stops in the next line
  pub line-stopped : (mid : Counted W) (i : ℕ) (e : ℕ × ℕ) → i < length ds → Wrote contents old mid (difference_lines ds i)
      → Stopped contents mid new (difference_line i (get_or ds i e)) → Stopped contents old new (difference_lines ds (length ds))
  line-stopped mid i e lt before stop =
      let within : Stopped contents old new (difference_lines ds (suc i)) =
      subst (λ x. Stopped contents old new (difference_lines ds i ++ difference_line i x)) (whichever ds i e (0, 0) lt)
      (stopped-after contents old mid new _ _ before stop) in
      let same : length ds ≡ length ds - suc i + suc i = omega (arith, lt) in
      lines-within (suc i) (length ds - suc i) (length ds) same within

-- ---- reports

-- each file's book has its report
pub files-reported : (files : Files) (paths : List (List ℕ)) (books : List Contents) (reports : List (List Told)) → AreBooks files paths books
    → AllZip HasReport books reports → AreReports files paths reports
files-reported files [] [] [] are have = tt
files-reported files [] [] (r ∷ rs) are have = absurd have
files-reported files [] (b ∷ bs) reports are have = absurd are
files-reported files (p ∷ ps) [] reports are have = absurd are
files-reported files (p ∷ ps) (b ∷ bs) [] are have = absurd have
files-reported files (p ∷ ps) (b ∷ bs) (r ∷ rs) are have = ((b, are.0, have.0), files-reported files ps bs rs are.1 have.1)

-- so have the books that are kept
pub kept-reported : (files : Files) (paths : List (List ℕ)) (specs : List SpecFile) (reports : List (List Told)) → AreFilesKept files paths specs reports
    → AreReports files paths reports
kept-reported files paths specs reports kept =
    files-reported files paths kept.0 reports kept.1 (kept-reports kept.0 specs reports kept.2)

-- one book more
pub file-more : (files : Files) (paths : List (List ℕ)) (place : ℕ) (specs : List SpecFile) (reports : List (List Told)) (spec : SpecFile) (report : List Told)
    → place < length paths → AreFilesKept files (take place paths) specs reports
    → (book : Contents) × IsFileBook (bytes_at files paths place) (Ok book) × IsKept book spec report
    → AreFilesKept files (take (place + 1) paths) (specs ++ spec ∷ []) (reports ++ report ∷ [])
file-more files paths place specs reports spec report lt kept more =
    let books : AreBooks files (take place paths ++ get_or paths place [] ∷ []) (kept.0 ++ more.0 ∷ []) =
    zip-push (λ p b. IsFileBook (files p) (Ok b)) (take place paths) kept.0 (get_or paths place []) more.0 kept.1 more.1 in (
      kept.0 ++ more.0 ∷ [],
      subst (λ front. AreBooks files front (kept.0 ++ more.0 ∷ [])) (sym (take_more paths place [] lt)) books,
      kept-push kept.0 specs reports more.0 spec report kept.2 more.2,
    )

-- ---- judgements

-- a file of the accepted ones has no report
pub not-judged : (files : Files) (path : List ℕ) (accepted : List (List ℕ)) (report : List Told) → IsFileReport (files path) (Ok report) → (fault : JudgeFault)
    → IsNotAccepted files accepted fault → IsNotJudged files path accepted fault
not-judged files path accepted report is (Book fault) h = absurd h
not-judged files path accepted report is (Accepted place fault) h = ((report, is), h)
not-judged files path accepted report is NoMemory h = tt
not-judged files path accepted report is (Write fault) h = absurd h

-- what is found of books that are kept is found of the files
pub judged-so : (files : Files) (path : List ℕ) (accepted : List (List ℕ)) (show : Bool) (spec : SpecFile) (report : List Told) (specs : List SpecFile)
    (reports : List (List Told)) (judgement : Judgement) → (here : Contents) × IsFileBook (files path) (Ok here) × IsKept here spec report
    → AreFilesKept files accepted specs reports → IsVerdict report reports judgement.verdict
    → ((here : Contents) → IsKept here spec report → (books : List Contents) → AreKept books specs reports
    → IsAskedBeneath show here report books reports judgement.verdict judgement.beneath.items)
    → IsJudgement show files path accepted judgement
judged-so files path accepted false spec report specs reports judgement here there verdict beneath = (
  record {
    report = report;
    reports = reports;
    is_report = (here.0, here.1, here.2.has_report);
    are_reports = kept-reported files accepted specs reports there;
    is_verdict = verdict;
  },
  beneath here.0 here.2 there.0 there.2,
)
judged-so files path accepted true spec report specs reports judgement here there verdict beneath = record {
  book = here.0;
  is_book = here.1;
  report = report;
  has_report = here.2.has_report;
  books = there.0;
  are_books = there.1;
  reports = reports;
  have_reports = kept-reports there.0 specs reports there.2;
  is_verdict = verdict;
  is_beneath = beneath here.0 here.2 there.0 there.2;
}

-- what is written for a judgement is its answer
pub answered : (files : Files) (path : List ℕ) (accepted : List (List ℕ)) (show : Bool) (judgement : Judgement) → IsJudgement show files path accepted judgement
    → IsAnswer show files path accepted judgement.verdict (verdict_text judgement.verdict ++ judgement.beneath.items)
answered files path accepted false judgement is =
    (is.0, ap (λ t. verdict_text judgement.verdict ++ t) is.1 ∙ append-nil (verdict_text judgement.verdict))
answered files path accepted true judgement is = (judgement.beneath.items, is, refl)
