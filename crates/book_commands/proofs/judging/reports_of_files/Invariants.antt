use Rattle.std.proofs.Common.{List, map, take}
use Rattle.fact_books.specs.Entries.{Told}
use Rattle.book_commands.specs.Judging.{AreFilesKept, AreReports}
use Rattle.book_commands.proofs.judging.reports_of_files.Given as goal

-- the books of the files before this one are kept, and so each of them is reported
abbrev pub invariant-loop-place : goal.invariant-loop-place
invariant-loop-place g l =
    AreFilesKept (g.O.Opener.bytes l.opener) (take l.place (map (λ p. p.now) l.paths)) l.specs.items l.reports.items
    × ((reports : List (List Told)) × AreReports (g.O.Opener.bytes l.opener) (take l.place (map (λ p. p.now) l.paths)) reports)
