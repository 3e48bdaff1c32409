use Rattle.std.proofs.Common.{◌++◌, sym, ap, ◌∙◌, append-nil, map}
use Rattle.world_shows.specs.Parts.{at_zero}
use Rattle.world_shows.proofs.reading.unnumbered.Goals as goal

pub returns : goal.returns
returns c =
    c.in_ok-seen.ensures ∙ sym (append-nil c.loop-key.rows.items) ∙ sym (ap (λ es. c.loop-key.rows.items ++ map at_zero es) c.in-None.ensures.steps.0) ∙ c.loop-key.invariant
