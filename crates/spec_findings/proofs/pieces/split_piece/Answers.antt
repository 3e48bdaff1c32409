use Rattle.std.proofs.Common.{ap, sym, ◌∙◌, take, drop}
use Rattle.spec_findings.proofs.pieces.split_piece.Goals as goal

pub returns-clause-front : goal.returns-clause-front
returns-clause-front c = c.split_at.ensures.front ∙ ap (λ n. take n c.args.text.now) (sym c.split_at.ensures.front_len)

pub returns-clause-back : goal.returns-clause-back
returns-clause-back c = c.split_at.ensures.back ∙ ap (λ n. drop n c.args.text.now) (sym c.split_at.ensures.front_len)
