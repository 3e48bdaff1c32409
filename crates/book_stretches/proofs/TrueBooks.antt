-- What true books tell.
use Rattle.std.proofs.Common.{◌≡◌, sym, ◌∙◌, subst, ℕ, slice_get, List, Option, Some, None}
use Rattle.bound_specs.specs.Spec.{line_of}
use Rattle.bound_specs.proofs.FileLemmas.{file-is-bound}
use Rattle.machine_model.specs.Outcome.{outcome_of_line}
use Rattle.rank_facts.specs.Values.{TellTheMachine}
use Rattle.rank_facts.proofs.TrueValues.{tell-the-machine}
use Rattle.fact_books.specs.Entries.{Told, recorded}
use Rattle.fact_books.specs.Books.{Contents}
use Rattle.class_stretches.specs.Stretches.{class_at}
use Rattle.book_stretches.specs.Telling.{IsToldAt}
use Rattle.book_stretches.specs.Laws.{IsTrueBook, TrueBooksTellTheMachine}
use Rattle.book_stretches.proofs.Places.{same-at}

tells : (book : Contents) → IsTrueBook book → TellTheMachine book.file.run (recorded book.facts)
tells book is = tell-the-machine book.file.run (file-is-bound _ _ is.file) (recorded book.facts) is.facts

one : (a b : Told) → Some a ≡ Some b → a ≡ b
one a b e = cc

told-so : (book : Contents) (outcomes : List Told) (r c : ℕ) (o : Told) (class : Option ℕ) → IsTrueBook book → IsToldAt book outcomes r class → class ≡ Some c
    → slice_get outcomes c ≡ Some o → outcome_of_line book.file.run (line_of book.file.run r) ≡ Some o
told-so book outcomes r c o None is t e at = cc
told-so book outcomes r c o (Some d) is t e at =
    let same : d ≡ c = cc in
    let here : t.0 ≡ o = same-at outcomes c t.0 o (subst (λ k. slice_get outcomes k ≡ Some t.0) same t.1) at in
    subst (λ p. outcome_of_line book.file.run (line_of book.file.run r) ≡ Some p) here ((tells book is).never_another r t.0 t.2.value)

pub true-books : TrueBooksTellTheMachine
true-books = record {
  no_clash = λ book r is clash.
      (let two = clash.two in
      two.4 (one two.0 two.1 (sym ((tells book is).never_another r two.0 two.2) ∙ (tells book is).never_another r two.1 two.3)));
  each = λ book x r c o is told lt class at. told-so book x.outcomes.items r c o (class_at x.stretches.list r) is (told.each r lt) class at;
}
