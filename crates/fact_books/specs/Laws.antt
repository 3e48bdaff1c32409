-- The laws of books.
use Rattle.std.specs.Prelude.{◌≡◌, ◌≢◌, List, Result, Err}
use Rattle.fact_books.specs.declared.error.ReportError.{ReportError}
use Rattle.fact_books.specs.declared.error.ReportError.TheVariants.{NoMemory}
use Rattle.fact_books.specs.Entries.{Told}
use Rattle.fact_books.specs.Books.{Contents, joined}
use Rattle.fact_books.specs.Reports.{IsReportOf, report_of}

-- books of one spec may be joined in any order
abbrev pub JoinsCommute : Type 0
JoinsCommute = (a b : Contents) → a.file ≡ b.file → joined a b ≡ joined b a

-- and in any grouping
abbrev pub JoinsAssociate : Type 0
JoinsAssociate = (a b c : Contents) → joined (joined a b) c ≡ joined a (joined b c)

-- a book joined with itself stays as it is
abbrev pub JoinsRepeat : Type 0
JoinsRepeat = (a : Contents) → joined a a ≡ a

-- a book has one report, unless memory runs out
abbrev pub OneReport : Type 0
OneReport = (book : Contents) (a b : Result (List Told) ReportError) → a ≢ Err NoMemory → b ≢ Err NoMemory → IsReportOf book a → IsReportOf book b → a ≡ b

-- one pass over the ranks gives it
abbrev pub ReportsByOnePass : Type 0
ReportsByOnePass = (book : Contents) → IsReportOf book (report_of book)
