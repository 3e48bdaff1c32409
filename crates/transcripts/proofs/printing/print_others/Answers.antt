use Rattle.std.specs.Prelude.{[], codes}
use Rattle.transcripts.specs.Text.{barred, value_text}
use Rattle.transcripts.proofs.Writing.{prints-stopped, stopped-after, stopped-append, stopped-next_of}
use Rattle.transcripts.proofs.printing.print_others.Goals as goal

-- a bar
pub returns-in_err-write_str : goal.returns-in_err-write_str
returns-in_err-write_str g c =
    prints-stopped _ _ _ _ _
    (stopped-next_of _ barred _ _ _ [] _ _ _ _ c.loop-value-test.true c.value-item.is c.loop-value.invariant
    (stopped-append _ _ _ (codes "|") (value_text c.value-item.result) c.in_err-write_str.ensures))
    c.from_residual.ensures.0

-- a value
pub returns-in_err-print_value : goal.returns-in_err-print_value
returns-in_err-print_value g c =
    prints-stopped _ _ _ _ _
    (stopped-next_of _ barred _ _ _ [] _ _ _ _ c.loop-value-test.true c.value-item.is c.loop-value.invariant
    (stopped-after _ _ _ _ (codes "|") (value_text c.value-item.result) c.in_ok-write_str.ensures c.in_err-print_value.ensures))
    c.from_residual-in_err-print_value.ensures.0
