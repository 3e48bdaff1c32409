use Rattle.std.proofs.Common.{refl}
use Rattle.spec_reader.proofs.names.step_name.Goals as goal

pub returns-then-is_used-clause-reads : goal.returns-then-is_used-clause-reads
returns-then-is_used-clause-reads c =
    λ f h. rw (c.fault.ensures, c.in_ok-token.ensures, c.in_ok-name.ensures, ← c.as_str.ensures.value, ← c.is_used.ensures, c.if-is_used.true) refl

pub returns-clause-reads : goal.returns-clause-reads
returns-clause-reads c = λ f h. rw (c.in_ok-token.ensures, c.in_ok-name.ensures, ← c.as_str.ensures.value, ← c.is_used.ensures, c.if-is_used.false) refl
