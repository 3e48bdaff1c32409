use Rattle.std.proofs.Common.{map, Bor, List, ℕ}
use Rattle.book_commands.proofs.JudgeLemmas.{judged-so, not-judged}
use Rattle.book_commands.proofs.judging.judgement_of_files.Goals as goal

-- an accepted file has no report
pub returns-in-Err-reports_of_files : goal.returns-in-Err-reports_of_files
returns-in-Err-reports_of_files g c =
    let book = c.in-Ok.ensures in
    not-judged (g.O.Opener.bytes c.args.opener.now) c.args.path.now (map (λ (p : Bor (List ℕ)). p.now) c.args.accepted.now) c.in-Ok.judged.report
    (book.0, book.1, book.2.has_report) c.in-Err-reports_of_files.fault c.in-Err-reports_of_files.ensures.refused

-- all have one
pub returns-in-Ok-judgement_of : goal.returns-in-Ok-judgement_of
returns-in-Ok-judgement_of g c =
    let judged = c.in-Ok.judged in
    let accepted = c.in-Ok-reports_of_files.reports in
    judged-so (g.O.Opener.bytes c.args.opener.now) c.args.path.now (map (λ (p : Bor (List ℕ)). p.now) c.args.accepted.now) c.args.show judged.spec
    judged.report accepted.specs.items accepted.reports.items c.in-Ok-judgement_of.judgement c.in-Ok.ensures c.in-Ok-reports_of_files.ensures.reports
    c.in-Ok-judgement_of.ensures.verdict c.in-Ok-judgement_of.ensures.beneath
