use Rattle.std.proofs.Common.{inr, arith}
use Rattle.spec_reader.specs.Text.{too_large, not_utf8}
use Rattle.spec_reader.proofs.reading.read_spec.Goals as goal

pub returns-then-bytes-gt-MAX_BYTES-clause-fault : goal.returns-then-bytes-gt-MAX_BYTES-clause-fault
returns-then-bytes-gt-MAX_BYTES-clause-fault c = inr (too_large (omega arith))

pub returns-in-Err-clause-fault : goal.returns-in-Err-clause-fault
returns-in-Err-clause-fault c = rw c.valid_up_to.ensures (inr (not_utf8 _ (omega arith) c.in-Err.ensures.cases.1))
