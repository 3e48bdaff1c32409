use Rattle.std.proofs.Common.{subst, decimal}
use Rattle.transcripts.specs.Counted.{Wrote}
use Rattle.transcripts.proofs.Writing.{prints-after}
use Rattle.book_commands.proofs.judging.write_before.Goals as goal

-- the number is written, and then the word or a front of it
pub returns : goal.returns
returns g c =
    prints-after g.W.Write.contents c.args.out.now c.write_str.new.self c.write_str-2.new.self c.write_str-2.result (decimal c.args.number) c.args.word.now
    (subst (λ t. Wrote g.W.Write.contents c.args.out.now c.write_str.new.self t) c.format.ensures.text c.in_ok-write_str.ensures) c.write_str-2.ensures
