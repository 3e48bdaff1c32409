use Rattle.std.proofs.Common.{subst}
use Rattle.std.specs.Result.{IfOk, IfErr}
use Rattle.fact_books.specs.Books.{Contents}
use Rattle.book_stretches.specs.Telling.{AreTold, IsNotTold}
use Rattle.book_stretches.proofs.Going.{book-is}
use Rattle.book_stretches.proofs.told.told_ranks.Goals as goal

pub returns-clause-told : goal.returns-clause-told
returns-clause-told c =
    let book = book-is c.args.book.now c.in_ok-spec.spec c.parts.result.0.now c.parts.result.1.now c.in_ok-spec.ensures c.parts.ensures.facts in
    subst (λ (b : Contents). IfOk c.told_of.result (AreTold b)) book c.told_of.ensures.told

pub returns-clause-refused : goal.returns-clause-refused
returns-clause-refused c =
    let book = book-is c.args.book.now c.in_ok-spec.spec c.parts.result.0.now c.parts.result.1.now c.in_ok-spec.ensures c.parts.ensures.facts in
    subst (λ (b : Contents). IfErr c.told_of.result (IsNotTold b)) book c.told_of.ensures.refused
