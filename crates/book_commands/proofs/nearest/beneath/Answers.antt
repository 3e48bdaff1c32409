use Rattle.std.proofs.Common.{◌∙◌, ap, subst, length, List, ℕ}
use Rattle.std.proofs.lemmas.Slice.Zip.{AllZip-long}
use Rattle.accepted_outputs.specs.Judging.{IsFirstDifference, IsVerdict}
use Rattle.book_commands.proofs.KeptLemmas.{kept-many}
use Rattle.book_commands.proofs.nearest.beneath.Goals as goal

-- there is a difference for each report
pub nearest_of-requires-clause-many : goal.nearest_of-requires-clause-many
nearest_of-requires-clause-many c =
    let report = c.args.judged.now.report in
    let reports = c.args.accepted.now.reports.items in
    ap (λ (l : List (ℕ × ℕ)). length l) c.as_slice.ensures
    ∙ AllZip-long (IsFirstDifference report) reports c.in-Differs.differences (subst (IsVerdict report reports) c.in-Differs.is c.requires.verdict)

-- and a spec for each report
pub nearest_of-requires-clause-specs : goal.nearest_of-requires-clause-specs
nearest_of-requires-clause-specs c =
    kept-many c.requires.there.0 c.args.accepted.now.specs.items c.args.accepted.now.reports.items c.requires.there.1
