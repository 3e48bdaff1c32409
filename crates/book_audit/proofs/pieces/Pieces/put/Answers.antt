use Rattle.std.proofs.Common.{sym, ap, ◌∙◌, ◌++◌, ◌∷◌, [], append_assoc}
use Rattle.book_audit.specs.Pieces.{runs_of}
use Rattle.book_audit.proofs.PieceLemmas.{OnOk-then}
use Rattle.book_audit.proofs.pieces.Pieces.put.Goals as goal

pub returns-then-self : goal.returns-then-self
returns-then-self c =
    let x = c.args.self.now in
    ap (λ rest. runs_of x.ended.items ++ rest) c.in_ok-push.ensures.ok ∙ sym (append_assoc (runs_of x.ended.items) x.rest (c.args.run ∷ []))

pub returns : goal.returns
returns c =
    let x = c.args.self.now in
    OnOk-then c.close.result _ _ c.close.ensures.same (λ same.
    same ∙ ap (λ rest. runs_of x.ended.items ++ rest) c.in_ok-push.ensures.ok ∙ sym (append_assoc (runs_of x.ended.items) x.rest (c.args.run ∷ [])))
