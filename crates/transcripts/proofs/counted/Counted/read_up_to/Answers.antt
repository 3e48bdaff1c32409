use Rattle.std.proofs.Common.{take, arith, length-append, length-take}
use Rattle.transcripts.specs.Counted.{unread}
use Rattle.transcripts.proofs.Reading.{fails, runs_out, consumed}
use Rattle.transcripts.proofs.counted.Counted.read_up_to.Goals as goal

pub returns-in_err-count-clause-taken : goal.returns-in_err-count-clause-taken
returns-in_err-count-clause-taken g c =
    fails c.from_residual.result (unread g.R.Read.remaining c.args.self.now) (unread g.R.Read.remaining c.loop-chunk.self)
    (unread g.R.Read.remaining c.read.new.self) c.loop-chunk.bytes.items c.args.limit c.loop-chunk.invariant.1 (omega (arith, c.loop-chunk-test.true, c.loop-chunk.bytes.ok.0))
    c.in_err-count.ensures.bytes c.from_residual.ensures.1

pub returns-in_err-extend_from_slice-clause-taken : goal.returns-in_err-extend_from_slice-clause-taken
returns-in_err-extend_from_slice-clause-taken g c =
    runs_out c.from_residual-in_err-extend_from_slice.result (unread g.R.Read.remaining c.args.self.now) (unread g.R.Read.remaining c.read.new.self) _
    c.args.limit
    (consumed _ (unread g.R.Read.remaining c.loop-chunk.self) _ c.loop-chunk.bytes.items (take c.in_ok-count.count c.read.new.buf) c.loop-chunk.invariant.1
    c.in_ok-count.ensures.bytes.0)
    (omega (
      arith,
      length-append c.loop-chunk.bytes.items (take c.in_ok-count.count c.read.new.buf),
      length-take c.in_ok-count.count c.read.new.buf,
      c.loop-chunk-test.true,
      c.loop-chunk.bytes.ok.0,
      c.min-room.ensures,
      c.len-in-loop-chunk.ensures,
      c.in_ok-count.ensures.bound,
      c.read.auto.buf,
      length-take c.min-room.result c.loop-chunk.chunk,
    )) c.from_residual-in_err-extend_from_slice.ensures.1
