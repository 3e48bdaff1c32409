use Rattle.std.proofs.Common.{◌∙◌, sym, ap, false}
use Rattle.sql_grammar.specs.Tokens.{Placed}
use Rattle.sql_grammar.specs.Lexing.{views, view_token, quoted}
use Rattle.sql_reader.proofs.ExpressionLemmas.{text-literal}
use Rattle.sql_reader.proofs.values.literal.Goals as goal

pub returns-in-Text-clause-reads : goal.returns-in-Text-clause-reads
returns-in-Text-clause-reads c =
    rw (text-literal (views c.args.tokens.now) (quoted false c.in-Text.field-0.now) (ap (λ (p : Placed). p.token) (sym c.first.ensures)
    ∙ ap view_token c.in-Text.is))
    c.quoted_text.ensures.reads
