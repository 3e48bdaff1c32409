use Rattle.std.proofs.Common.{◌≡◌, ◌∙◌, ap, subst, sym}
use Rattle.std.proofs.lemmas.Result.{IfOk-weaker}
use Rattle.bound_specs.specs.Spec.{SpecFile, ranks}
use Rattle.book_stretches.specs.Missing.{AreToRun, gaps}
use Rattle.book_stretches.proofs.Gaps.{gaps-to-run}
use Rattle.book_stretches.proofs.missing.runs_to_run.Goals as goal

pub returns : goal.returns
returns c =
    let book = c.args.book.now in
    let outcomes = c.parts.result.0.now in
    let runs = c.parts.result.1.now in
    let count : c.ranks.result ≡ ranks book.file.run = c.ranks.ensures ∙ ap (λ (f : SpecFile). ranks f.run) c.in_ok-spec.ensures in
    IfOk-weaker c.gaps_of.result _ _
    (λ found is. subst (AreToRun book) (sym (is ∙ ap (λ n. gaps 0 runs n) count)) (gaps-to-run book outcomes runs c.parts.ensures.facts c.parts.ensures.kept))
    c.gaps_of.ensures
