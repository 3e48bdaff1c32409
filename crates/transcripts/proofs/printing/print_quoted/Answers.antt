use Rattle.std.specs.Prelude.{◌++◌, codes, flat_map}
use Rattle.std.proofs.Common.{refl}
use Rattle.transcripts.specs.Text.{doubled}
use Rattle.transcripts.proofs.Writing.{prints-after, prints-stopped, stopped-append, stopped-next_of, wrote-all_of}
use Rattle.transcripts.proofs.printing.print_quoted.Goals as goal

-- a byte of the text
pub returns-in_err-print_byte : goal.returns-in_err-print_byte
returns-in_err-print_byte g c =
    rw (← c.as_bytes-byte-items.ensures.value)
    (prints-stopped _ _ _ _ _
    (stopped-append _ _ _ (codes "'" ++ flat_map doubled c.as_bytes-byte-items.result.now) (codes "'")
    (stopped-next_of _ doubled _ _ _ (codes "'") c.as_bytes-byte-items.result.now c.loop-byte.byte-index _ 0 c.loop-byte-test.true refl c.loop-byte.invariant
    c.in_err-print_byte.ensures))
    c.from_residual-in_err-print_byte.ensures.0)

-- the closing quote
pub returns : goal.returns
returns g c =
    rw (← c.as_bytes-byte-items.ensures.value)
    (prints-after _ _ _ _ _ (codes "'" ++ flat_map doubled c.as_bytes-byte-items.result.now) (codes "'")
    (wrote-all_of _ doubled _ _ (codes "'") _ _ c.loop-byte-test.false c.loop-byte.invariant) c.write_str-2.ensures)
