use Rattle.std.proofs.Common.{sym, ◌∙◌}
use Rattle.compact_outcomes.proofs.PieceLemmas.{told-length}
use Rattle.compact_outcomes.proofs.list.CompactOutcomes.len.Goals as goal

-- there is one outcome for each end
pub returns : goal.returns
returns c = rw (← c.self.view_is) (c.len.ensures ∙ c.self.inside.ends.ok.0 ∙ sym (told-length c.self.inside.texts.items c.self.inside.ends.items))
