use Rattle.std.proofs.Common.{refl}
use Rattle.spec_reader.proofs.names.known_name.Goals as goal

pub returns-then-not-has_step : goal.returns-then-not-has_step
returns-then-not-has_step c =
    λ f ls is n ms ts e. rw (c.fault.ensures, e, c.in_ok-name.ensures, ← c.as_str.ensures.value, ← c.has_step.ensures, c.if-not-has_step.true) refl

pub returns : goal.returns
returns c = λ f ls is n ms ts e. rw (e, c.in_ok-name.ensures, ← c.as_str.ensures.value, ← c.has_step.ensures, c.if-not-has_step.false) refl
