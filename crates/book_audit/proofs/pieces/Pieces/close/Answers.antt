use Rattle.std.proofs.Common.{◌≡◌, ap, ◌∙◌, ◌++◌, ◌∷◌, [], List}
use Rattle.fact_books.specs.declared.run.Run.{Run}
use Rattle.book_audit.specs.Pieces.{runs_of}
use Rattle.book_audit.proofs.PieceLemmas.{runs_of-ended}
use Rattle.book_audit.proofs.pieces.Pieces.close.Goals as goal

pub returns-clause-same : goal.returns-clause-same
returns-clause-same c =
    let x = c.args.self.now in
    let rest : c.replace-rest.new.dest ≡ [] = c.replace-rest.ensures.after ∙ c.new.ensures in
    let ended : c.push.new.self.items ≡ x.ended.items ++ x.rest ∷ [] =
    c.in_ok-push.ensures.items ∙ ap (λ (r : List Run). x.ended.items ++ r ∷ []) c.replace-rest.ensures.value in
    (λ i. runs_of (ended i) ++ rest i) ∙ runs_of-ended x.ended.items x.rest
