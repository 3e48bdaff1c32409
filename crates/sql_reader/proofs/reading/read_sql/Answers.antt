use Rattle.std.proofs.Common.{◌≡◌, sym, ap, ◌∙◌, length, List, suc, inr}
use Rattle.sql_grammar.specs.Lexing.{views, token_list}
use Rattle.sql_grammar.specs.Tokens.{Placed}
use Rattle.sql_grammar.specs.Text.{statements_from, seen, fault_of_error}
use Rattle.sql_reader.proofs.FaultLemmas.{fault-one}
use Rattle.sql_reader.proofs.RowLemmas.{spelled-few}
use Rattle.sql_reader.proofs.TextLemmas.{read-sound, read-only, read-fault, read-nothing, spelled-one}
use Rattle.sql_reader.proofs.reading.read_sql.Goals as goal

pub returns-in_default-clause-one : goal.returns-in_default-clause-one
returns-in_default-clause-one c = spelled-one c.args.text.now

pub returns-in_default-clause-one_fault : goal.returns-in_default-clause-one_fault
returns-in_default-clause-one_fault c = fault-one (token_list c.args.text.now)

pub returns-in-Ok-statements_of-clause-sound : goal.returns-in-Ok-statements_of-clause-sound
returns-in-Ok-statements_of-clause-sound c =
    let same : views c.deref.result.now ≡ token_list c.args.text.now = ap views c.deref.ensures.value ∙ c.in-Ok.ensures in
    read-sound c.args.text.now (seen c.in-Ok-statements_of.all.items) (ap (λ (ts : List Placed). statements_from (suc (length ts)) ts) (sym same)
    ∙ c.in-Ok-statements_of.ensures)

pub returns-in-Ok-statements_of-clause-few_rows : goal.returns-in-Ok-statements_of-clause-few_rows
returns-in-Ok-statements_of-clause-few_rows c =
    let same : views c.deref.result.now ≡ token_list c.args.text.now = ap views c.deref.ensures.value ∙ c.in-Ok.ensures in
    spelled-few c.args.text.now (seen c.in-Ok-statements_of.all.items)
    (read-sound c.args.text.now (seen c.in-Ok-statements_of.all.items) (ap (λ (ts : List Placed). statements_from (suc (length ts)) ts) (sym same)
    ∙ c.in-Ok-statements_of.ensures))

pub returns-in-Ok-statements_of-clause-complete : goal.returns-in-Ok-statements_of-clause-complete
returns-in-Ok-statements_of-clause-complete c =
    let same : views c.deref.result.now ≡ token_list c.args.text.now = ap views c.deref.ensures.value ∙ c.in-Ok.ensures in
    λ all h. read-only c.args.text.now (seen c.in-Ok-statements_of.all.items) all
    (ap (λ (ts : List Placed). statements_from (suc (length ts)) ts) (sym same) ∙ c.in-Ok-statements_of.ensures) h

pub returns-in-Ok-statements_of-clause-one : goal.returns-in-Ok-statements_of-clause-one
returns-in-Ok-statements_of-clause-one c = spelled-one c.args.text.now

pub returns-in-Ok-statements_of-clause-one_fault : goal.returns-in-Ok-statements_of-clause-one_fault
returns-in-Ok-statements_of-clause-one_fault c = fault-one (token_list c.args.text.now)

pub returns-in-Err-Memory-clause-one : goal.returns-in-Err-Memory-clause-one
returns-in-Err-Memory-clause-one c = spelled-one c.args.text.now

pub returns-in-Err-Memory-clause-one_fault : goal.returns-in-Err-Memory-clause-one_fault
returns-in-Err-Memory-clause-one_fault c = fault-one (token_list c.args.text.now)

pub returns-clause-complete : goal.returns-clause-complete
returns-clause-complete c =
    let same : views c.deref.result.now ≡ token_list c.args.text.now = ap views c.deref.ensures.value ∙ c.in-Ok.ensures in
    let refused = rw c.in-Err-Refused.field-0-is at c.in-Err-Refused.ensures in
    λ all h. absurd (read-nothing c.args.text.now (fault_of_error c.in-Err-Refused.e) all
    (ap (λ (ts : List Placed). statements_from (suc (length ts)) ts) (sym same) ∙ refused) h)

pub returns-clause-refused : goal.returns-clause-refused
returns-clause-refused c =
    let same : views c.deref.result.now ≡ token_list c.args.text.now = ap views c.deref.ensures.value ∙ c.in-Ok.ensures in
    let refused = rw c.in-Err-Refused.field-0-is at c.in-Err-Refused.ensures in
    inr (read-fault c.args.text.now (fault_of_error c.in-Err-Refused.e) (ap (λ (ts : List Placed). statements_from (suc (length ts)) ts) (sym same) ∙ refused))

pub returns-clause-one : goal.returns-clause-one
returns-clause-one c = spelled-one c.args.text.now

pub returns-clause-one_fault : goal.returns-clause-one_fault
returns-clause-one_fault c = fault-one (token_list c.args.text.now)
