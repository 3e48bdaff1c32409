use Rattle.std.proofs.Common.{refl, sym, ◌∙◌}
use Rattle.spec_reader.proofs.names.item_name.Goals as goal

pub returns-then-not-has_step : goal.returns-then-not-has_step
returns-then-not-has_step c =
    let room = sym c.is_full.ensures ∙ c.if-is_full.false in
    λ f ls ts. rw (c.fault-then-not-has_step.ensures, c.in_ok-name.ensures, room, ← c.as_str.ensures.value, ← c.has_step.ensures, c.if-not-has_step.true) refl

pub returns : goal.returns
returns c =
    let room = sym c.is_full.ensures ∙ c.if-is_full.false in
    λ f ls ts. rw (c.in_ok-name.ensures, room, ← c.as_str.ensures.value, ← c.has_step.ensures, c.if-not-has_step.false) refl
