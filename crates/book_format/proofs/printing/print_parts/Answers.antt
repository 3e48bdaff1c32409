use Rattle.std.specs.Prelude.{◌++◌}
use Rattle.transcripts.proofs.Writing.{prints-after, prints-stopped, stopped-after, stopped-append, wrote-append}
use Rattle.book_format.specs.Pieces.{facts_text, spec_text, table_text}
use Rattle.book_format.proofs.printing.print_parts.Goals as goal

-- the runs
pub returns-in_err-print_facts : goal.returns-in_err-print_facts
returns-in_err-print_facts g c =
    let facts = facts_text c.args.runs.now in
    let outcomes = table_text c.args.outcomes.now in
    prints-stopped _ _ _ _ _
    (stopped-append _ _ _ (facts ++ outcomes) (spec_text c.args.quoted.now) (stopped-append _ _ _ facts outcomes c.in_err-print_facts.ensures))
    c.from_residual.ensures.0

-- the outcomes
pub returns-in_err-print_outcomes : goal.returns-in_err-print_outcomes
returns-in_err-print_outcomes g c =
    let facts = facts_text c.args.runs.now in
    let outcomes = table_text c.args.outcomes.now in
    prints-stopped _ _ _ _ _
    (stopped-append _ _ _ (facts ++ outcomes) (spec_text c.args.quoted.now)
    (stopped-after _ _ _ _ facts outcomes c.in_ok-print_facts.ensures c.in_err-print_outcomes.ensures))
    c.from_residual-in_err-print_outcomes.ensures.0

-- the spec's text
pub returns : goal.returns
returns g c =
    let facts = facts_text c.args.runs.now in
    let outcomes = table_text c.args.outcomes.now in
    prints-after _ _ _ _ _ (facts ++ outcomes) (spec_text c.args.quoted.now)
    (wrote-append _ _ _ _ facts outcomes c.in_ok-print_facts.ensures c.in_ok-print_outcomes.ensures) c.print_spec.ensures
