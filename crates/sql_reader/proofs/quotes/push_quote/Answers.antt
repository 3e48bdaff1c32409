use Rattle.std.proofs.Common.{sym, ap, ◌∙◌, List, ℕ, [], ◌∷◌}
use Rattle.std.specs.String.{string_bytes}
use Rattle.sql_grammar.specs.Lexing.{content, with_front}
use Rattle.sql_reader.proofs.QuoteLemmas.{front-twice}
use Rattle.sql_reader.proofs.quotes.push_quote.Goals as goal

pub returns-clause-whole : goal.returns-clause-whole
unfolding lib.Utf8.encode
returns-clause-whole c =
    c.in_ok-rest.ensures.whole
    ∙ ap (λ (front : List ℕ). with_front front (content c.args.text.now)) c.in_ok-push.ensures.bytes
    ∙ sym (front-twice (string_bytes c.args.to.now) (39 ∷ []) (content c.args.text.now))
