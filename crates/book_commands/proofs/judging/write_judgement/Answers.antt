use Rattle.std.proofs.Common.{subst}
use Rattle.transcripts.specs.Counted.{Prints}
use Rattle.transcripts.proofs.Writing.{prints-after}
use Rattle.book_commands.specs.Judging.{verdict_text}
use Rattle.book_commands.proofs.judging.write_judgement.Goals as goal

-- the verdict is written, and then what stands beneath it or a front of that
pub returns : goal.returns
returns g c =
    let judgement = c.args.judgement.now in
    prints-after g.W.Write.contents c.args.out.now c.write_verdict.new.out c.write_all.new.self c.write_all.result (verdict_text judgement.verdict)
    judgement.beneath.items c.in_ok-write_verdict.ensures
    (subst (λ t. Prints g.W.Write.contents c.write_verdict.new.out c.write_all.new.self c.write_all.result t) c.as_slice.ensures.value c.write_all.ensures)
