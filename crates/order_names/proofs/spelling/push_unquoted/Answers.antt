use Rattle.std.proofs.Common.{List, ℕ, ◌++◌, sym, ap, append_assoc}
use Rattle.std.specs.String.{string_bytes}
use Rattle.spec_reader.proofs.Quotes.{unquoted_stops}
use Rattle.order_names.proofs.Spelled.{doubled_front}
use Rattle.order_names.proofs.spelling.push_unquoted.Goals as goal

pub returns-clause-whole : goal.returns-clause-whole
returns-clause-whole c =
    rw (c.in_ok-push_str.ensures.bytes, c.run_of.ensures.run, c.run_of.ensures.rest, append_assoc)
    (ap (λ (l : List ℕ). string_bytes c.args.text.now ++ l) (sym (doubled_front c.args.name.now)))

pub returns-clause-quote : goal.returns-clause-quote
returns-clause-quote c = rw c.run_of.ensures.rest (unquoted_stops c.args.name.now)
