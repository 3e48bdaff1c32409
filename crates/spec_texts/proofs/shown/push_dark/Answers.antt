use Rattle.std.proofs.Common.{List, ℕ, ◌++◌, sym, ap, append_assoc}
use Rattle.std.specs.String.{string_bytes}
use Rattle.spec_texts.proofs.Darkness.{dark-boundary, shown-front, white-stops}
use Rattle.spec_texts.proofs.shown.push_dark.Goals as goal

pub split_at-requires : goal.split_at-requires
split_at-requires c = rw (c.dark_len.ensures, c.as_bytes.ensures.value) (dark-boundary c.args.token.now)

pub returns-clause-whole : goal.returns-clause-whole
returns-clause-whole c =
    rw (c.in_ok-push_str.ensures.bytes, c.split_at.ensures.front, c.split_at.ensures.back, c.dark_len.ensures, c.as_bytes.ensures.value, append_assoc)
    (ap (λ (l : List ℕ). string_bytes c.args.line.now ++ l) (sym (shown-front c.args.token.now)))

pub returns-clause-white : goal.returns-clause-white
returns-clause-white c = rw (c.split_at.ensures.back, c.dark_len.ensures, c.as_bytes.ensures.value) (white-stops c.args.token.now)
