use Rattle.std.proofs.Common.{◌≡◌, ◌++◌, List, ℕ, IfOk, ap, sym, subst, ◌∙◌}
use Rattle.sql_grammar.specs.Text.{seen}
use Rattle.sql_grammar.specs.declared.statement.Statement.{Statement}
use Rattle.bound_specs.specs.Binding.{read_text}
use Rattle.spec_binding.proofs.ReadLemmas.{read-is, read-refused}
use Rattle.file_blocks.proofs.FlatLemmas.{behind-nothing}
use Rattle.spec_texts.specs.Statements.{with_at, read_or_none}
use Rattle.spec_texts.proofs.statements.push_block.Goals as goal

pub returns-in-Ok : goal.returns-in-Ok
returns-in-Ok c =
    let read = ap read_text (sym c.deref.ensures) ∙ read-is c.deref.result.now _ c.in-Ok.ensures.sound in
    let with_part = ap (λ r. with_at c.args.kind c.args.block.now.at (read_or_none r)) read in
    let same = ap (λ (ss : List Statement). with_at c.args.kind c.args.block.now.at (seen ss)) c.deref-in-Ok.ensures.value in
    subst (λ (us : List ℕ). IfOk c.push_statements.result (λ x. c.push_statements.new.all.items ≡ c.args.all.now.items ++ us)) (same ∙ sym with_part)
    c.push_statements.ensures

pub returns-in_default : goal.returns-in_default
returns-in_default c =
    let why = read-refused c.deref.result.now c.in-Err.error c.in-Err.ensures.refused c.in_default.not-NoMemory c.in-Err.ensures.complete in
    let none = ap (λ r. with_at c.args.kind c.args.block.now.at (read_or_none r)) (ap read_text (sym c.deref.ensures) ∙ why) in
    sym (ap (λ (us : List ℕ). c.args.all.now.items ++ us) none ∙ behind-nothing c.args.all.now.items)
