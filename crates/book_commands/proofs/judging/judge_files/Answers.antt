use Rattle.std.proofs.Common.{map, Bor, List, ℕ, ◌++◌}
use Rattle.book_commands.specs.Judging.{verdict_text}
use Rattle.book_commands.proofs.JudgeLemmas.{answered}
use Rattle.book_commands.proofs.judging.judge_files.Goals as goal

-- a front of the answer is written
pub returns : goal.returns
returns g c =
    let judgement = c.in-Ok.judgement in (
      judgement.verdict,
      verdict_text judgement.verdict ++ judgement.beneath.items,
      answered (g.O.Opener.bytes c.args.opener.now) c.args.path.now (map (λ (p : Bor (List ℕ)). p.now) c.args.accepted.now) c.args.show judgement c.in-Ok.ensures,
      c.in-Err-write_judgement.ensures,
    )
