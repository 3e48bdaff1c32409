use Rattle.command_line.specs.Lines.{AsksFor}
use Rattle.command_line.proofs.LineLemmas.{of-each, no-line}
use Rattle.command_line.proofs.words.asked_by.Goals as goal

-- each plain line is read, so that these words are none
pub returns-in-None-clause-refused : goal.returns-in-None-clause-refused
returns-in-None-clause-refused c = of-each c.other_line.result _ (λ e line is. absurd (no-line (AsksFor line) _ c.in-None.is (c.in_ok-asked.ensures line is)))
