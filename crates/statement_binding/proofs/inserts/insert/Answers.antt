use Rattle.std.proofs.Common.{◌∙◌, rules}
use Rattle.sql_grammar.specs.Views.{chain_of}
use Rattle.binding_model.specs.Statements.{row_values, insert_rows}
use Rattle.statement_binding.proofs.ChainLemmas.{each-listed, then-both}
use Rattle.statement_binding.proofs.inserts.insert.Goals as goal

pub returns-in_err-rows : goal.returns-in_err-rows
returns-in_err-rows c =
    let listed = each-listed chain_of (row_values c.args.at) c.args.statement.now.rows in
    rw listed (search rules)

pub returns : goal.returns
returns c =
    let listed = each-listed chain_of (row_values c.args.at) c.args.statement.now.rows in
    let same = then-both _ _ (insert_rows c.args.table.now c.args.at c.args.number) c.in_ok-columns.columns.items c.in_ok-rows.rows.items
    c.in_ok-columns.ensures (listed ∙ c.in_ok-rows.ensures) in
    let told = rw (c.deref.ensures.value, c.deref-2.ensures.value) at c.insert_rows.ensures in
    rw same told
