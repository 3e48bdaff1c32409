use Rattle.std.proofs.Common.{sym, ap, ◌∙◌}
use Rattle.std.specs.String.{string_bytes}
use Rattle.byte_runs.specs.declared.runs.Class.TheVariants as class
use Rattle.sql_grammar.specs.Lexing.{with_front}
use Rattle.byte_runs.proofs.RunLemmas.{run_boundary}
use Rattle.sql_reader.proofs.QuoteLemmas.{content-front, front-twice, run_stops}
use Rattle.sql_reader.proofs.quotes.push_unquoted.Goals as goal

pub split_at-requires : goal.split_at-requires
split_at-requires c = rw (c.run_len.ensures, c.as_bytes.ensures.value) (run_boundary class.SingleQuoted c.args.text.now c.utf8.text)

pub returns-clause-whole : goal.returns-clause-whole
returns-clause-whole c =
    rw (c.in_ok-push_str.ensures.bytes, c.split_at.ensures.front, c.split_at.ensures.back, c.run_len.ensures, c.as_bytes.ensures.value)
    (sym (ap (with_front (string_bytes c.args.to.now)) (content-front c.args.text.now) ∙ front-twice _ _ _))

pub returns-clause-quote : goal.returns-clause-quote
returns-clause-quote c = rw (c.split_at.ensures.back, c.run_len.ensures, c.as_bytes.ensures.value) (run_stops c.args.text.now)
