use Rattle.std.proofs.Common.{◌≡◌, ap, sym, ◌∙◌, true, false, Some}
use Rattle.bound_statements.proofs.ConditionLemmas.{told-and, told-or}
use Rattle.statement_evaluation.specs.Evaluate.{and_then, or_else, level_holds, holds}
use Rattle.statement_evaluation.proofs.evaluate.+holds.Goals as goal

-- the first part holds, so the second decides
pub returns-then-branch : goal.returns-then-branch
returns-then-branch t c =
    let row = c.args.row.now in
    let whole = ap (holds row) c.in-And.is ∙ told-and (level_holds row) c.in-And.a c.in-And.b in
    let first : holds row c.in-And.a ≡ Some true = sym (c.holds-in-And.ensures ∙ ap (holds row) c.get-in-And.ensures) ∙ c.in_ok-holds-in-And.was
    ∙ ap Some c.if-branch.true in
    let second = c.holds-then-branch.ensures ∙ ap (holds row) c.get-then-branch.ensures in
    second ∙ sym (whole ∙ ap (λ o. and_then o (holds row c.in-And.b)) first)

-- the first part does not hold, so the second decides
pub returns-else-branch-2 : goal.returns-else-branch-2
returns-else-branch-2 t c =
    let row = c.args.row.now in
    let whole = ap (holds row) c.in-Or.is ∙ told-or (level_holds row) c.in-Or.a c.in-Or.b in
    let first : holds row c.in-Or.a ≡ Some false = sym (c.holds-in-Or.ensures ∙ ap (holds row) c.get-in-Or.ensures) ∙ c.in_ok-holds-in-Or.was
    ∙ ap Some c.if-branch-2.false in
    let second = c.holds-else-branch-2.ensures ∙ ap (holds row) c.get-else-branch-2.ensures in
    second ∙ sym (whole ∙ ap (λ o. or_else o (holds row c.in-Or.b)) first)
