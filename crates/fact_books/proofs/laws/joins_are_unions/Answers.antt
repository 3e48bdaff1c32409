use Rattle.fact_books.proofs.SetLemmas.{union-comm, union-assoc, union-idem}
use Rattle.fact_books.proofs.laws.joins_are_unions.Goals as goal

pub returns : goal.returns
returns c = record {
  commute = λ a b e i. record { file = e i; facts = union-comm a.facts b.facts i };
  associate = λ a b d i. record { file = a.file; facts = union-assoc a.facts b.facts d.facts i };
  repeat = λ a i. record { file = a.file; facts = union-idem a.facts i };
}
