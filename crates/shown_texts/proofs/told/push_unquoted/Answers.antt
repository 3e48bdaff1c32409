use Rattle.std.proofs.Common.{List, ℕ, ◌++◌, sym, ap, append_assoc}
use Rattle.std.specs.String.{string_bytes}
use Rattle.shown_texts.proofs.QuoteLemmas.{doubled_front, unquoted_stops}
use Rattle.shown_texts.proofs.told.push_unquoted.Goals as goal

pub returns-clause-whole : goal.returns-clause-whole
returns-clause-whole c =
    rw (c.in_ok-push_str.ensures.bytes, c.run_of.ensures.run, c.run_of.ensures.rest, append_assoc)
    (ap (λ (l : List ℕ). string_bytes c.args.text.now ++ l) (sym (doubled_front c.args.word.now)))

pub returns-clause-quote : goal.returns-clause-quote
returns-clause-quote c = rw c.run_of.ensures.rest (unquoted_stops c.args.word.now)
