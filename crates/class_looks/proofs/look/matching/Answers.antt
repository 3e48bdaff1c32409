use Rattle.std.proofs.Common.{sym, ap, ◌∙◌, ◌+◌, cond, [], ◌∷◌, ◌++◌, drop}
use Rattle.std.specs.Option.{option_copied}
use Rattle.statement_evaluation.specs.Effect.{matching}
use Rattle.statement_evaluation.proofs.ListLemmas.{onto}
use Rattle.class_looks.specs.Seeing.{entries_at}
use Rattle.class_looks.proofs.SeeingLemmas.{fault-at, row-at}
use Rattle.class_looks.proofs.look.matching.Goals as goal

pub returns-in_default : goal.returns-in_default
returns-in_default c =
    sym (fault-at c.args.table (option_copied c.args.key) c.args.condition.now c.args.rows.now c.loop-entry.entry-index c.entry-item.result
    c.loop-entry-test.true c.entry-item.is c.loop-entry.found (sym c.is_at.ensures ∙ c.if-not-is_at.false) (sym c.in_default.ensures))
    ∙ c.loop-entry.invariant

pub loop-entry-preserved : goal.loop-entry-preserved
loop-entry-preserved c =
    ap (λ es. onto es (matching c.args.condition.now (entries_at c.args.table (option_copied c.args.key) (drop (c.loop-entry.entry-index + 1) c.args.rows.now))))
    (c.in_ok-push_if.ensures.pushed ∙ (λ k. c.loop-entry.found ++ cond c.in-Some.passes (c.new.ensures k ∷ []) []))
    ∙ sym (row-at c.args.table (option_copied c.args.key) c.args.condition.now c.args.rows.now c.loop-entry.entry-index c.entry-item.result
    c.loop-entry-test.true c.entry-item.is c.loop-entry.found c.in-Some.passes (sym c.is_at.ensures ∙ c.if-not-is_at.false) (sym c.in-Some.ensures))
    ∙ c.loop-entry.invariant
