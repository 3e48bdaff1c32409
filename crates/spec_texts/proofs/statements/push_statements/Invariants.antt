use Rattle.std.proofs.Common.{◌≡◌, ◌++◌, take}
use Rattle.sql_grammar.specs.Text.{seen}
use Rattle.spec_texts.specs.Statements.{with_at}
use Rattle.spec_texts.proofs.statements.push_statements.Given as goal

abbrev pub invariant-loop-statement : goal.invariant-loop-statement
invariant-loop-statement l = l.all.items ≡ l.fn.all.items ++ with_at l.kind l.block (seen (take l.statement-index l.statements))
