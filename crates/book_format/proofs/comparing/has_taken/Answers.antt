use Rattle.std.proofs.Common.{sym, ◌∙◌}
use Rattle.std.specs.Cmp.Lexicographic.{bytes_decides}
use Rattle.std.proofs.lemmas.List.{take_all}
use Rattle.book_format.proofs.comparing.has_taken.Goals as goal

pub returns-then-out : goal.returns-then-out
returns-then-out c = λ h. take_all c.args.out.now.done c.args.out.now.bytes.now c.if-out.true
    ∙ (bytes_decides c.args.out.now.bytes.now c.args.bytes.now).0 (sym c.eq.ensures ∙ h)
