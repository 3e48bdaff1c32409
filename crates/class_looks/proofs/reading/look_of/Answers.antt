use Rattle.std.proofs.Common.{subst}
use Rattle.sql_grammar.specs.Text.{seen}
use Rattle.bound_specs.specs.Binding.{read_text}
use Rattle.class_looks.specs.Reading.{told_sql, bound_alone, Finds}
use Rattle.class_looks.proofs.ReadingLemmas.{then-found, found-look}
use Rattle.class_looks.proofs.reading.look_of.Goals as goal

pub returns-clause-select : goal.returns-clause-select
returns-clause-select c =
    let alone = subst (λ ss. Finds (λ look. look) c.bound_alone.result (bound_alone c.args.tables.now (seen ss))) c.deref.ensures.value c.bound_alone.ensures
    in
    found-look c.args.tables.now c.args.text.now c.bound_alone.result
    (then-found c.args.tables.now (told_sql (read_text c.args.text.now)) (seen c.in_ok-statements.statements.items) c.bound_alone.result
    c.in_ok-statements.ensures alone)
