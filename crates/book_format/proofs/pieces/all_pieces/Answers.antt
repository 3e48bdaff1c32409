use Rattle.std.proofs.Common.{◌∙◌, ap, subst}
use Rattle.serde_json.specs.Data.{string}
use Rattle.serde_json.specs.Written.{compact_text}
use Rattle.fact_books.specs.Books.{facts_in}
use Rattle.book_format.specs.Forms.{IsForm}
use Rattle.book_format.proofs.PiecesLemmas.{are-pieces}
use Rattle.book_format.proofs.pieces.all_pieces.Goals as goal

pub returns : goal.returns
returns c =
    are-pieces c.args.book.now _
    (subst (λ s. IsForm s c.in_ok-form.form.outcomes.items c.in_ok-form.form.runs.items)
    (ap (λ os. facts_in os c.parts.result.1.now) (c.as_slice.ensures.value ∙ c.in_ok-outcomes.ensures) ∙ c.parts.ensures.facts) c.in_ok-form.ensures)
    (c.in_ok-quoted.ensures ∙ ap (λ t. compact_text (string t)) c.text.ensures)
