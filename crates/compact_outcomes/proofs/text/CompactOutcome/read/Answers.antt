use Rattle.std.proofs.Common.{sym, ◌∙◌}
use Rattle.compact_outcomes.proofs.OutcomeValues.{told-one}
use Rattle.compact_outcomes.proofs.text.CompactOutcome.read.Goals as goal

pub returns-in-Ok : goal.returns-in-Ok
returns-in-Ok c = told-one c.in-Ok.outcome c.args.self.now (c.in-Ok.ensures.stands ∙ c.in_ok-value.ensures)

-- the value is that of an outcome
pub unreachable-requires : goal.unreachable-requires
unreachable-requires c =
    c.in-Err-BadField.ensures.bad c.in-Err-BadField.field-0-is c.args.self.now c.known.ensures.fits (sym c.in_ok-value.ensures)
