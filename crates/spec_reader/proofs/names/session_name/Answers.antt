use Rattle.std.proofs.Common.{refl}
use Rattle.spec_reader.proofs.names.session_name.Goals as goal

pub returns-then-has-clause-reads : goal.returns-then-has-clause-reads
returns-then-has-clause-reads c =
    λ f. rw (c.fault.ensures, c.in_ok-token.ensures, c.in_ok-name.ensures, ← c.as_str.ensures.value, ← c.has.ensures, c.if-has.true) refl

pub returns-clause-reads : goal.returns-clause-reads
returns-clause-reads c = λ f. rw (c.in_ok-token.ensures, c.in_ok-name.ensures, ← c.as_str.ensures.value, ← c.has.ensures, c.if-has.false) refl
