use Rattle.class_numbers.proofs.BookLemmas.{books-told}
use Rattle.class_numbers.proofs.laws.books_are_of_orders.Goals as goal

pub returns : goal.returns
returns c = λ files paths wanted text t. books-told t.book t.classed t.are
