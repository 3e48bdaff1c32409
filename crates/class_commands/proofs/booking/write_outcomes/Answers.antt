use Rattle.std.proofs.Common.{subst}
use Rattle.transcripts.specs.Counted.{Wrote, Stopped}
use Rattle.class_commands.specs.Written.{written_bytes}
use Rattle.class_commands.proofs.booking.write_outcomes.Goals as goal

pub returns-in-Ok-write_all : goal.returns-in-Ok-write_all
returns-in-Ok-write_all g c = (
  written_bytes c.in-Ok.written,
  c.in-Ok.ensures,
  subst (Wrote g.W.Write.contents c.args.out.now c.write_all.new.self) c.bytes.ensures c.in-Ok-write_all.ensures,
)

pub returns : goal.returns
returns g c = (
  written_bytes c.in-Ok.written,
  c.in-Ok.ensures,
  subst (Stopped g.W.Write.contents c.args.out.now c.write_all.new.self) c.bytes.ensures c.in-Err.ensures,
)
