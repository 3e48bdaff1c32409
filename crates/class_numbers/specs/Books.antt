-- What is told of the orders of books in classes, by the orders themselves.
use Rattle.std.specs.Prelude.{◌≡◌, ℕ, ◌<◌, true, All, Option, Some, None}
use Rattle.bound_specs.specs.Spec.{ranks}
use Rattle.fact_books.specs.Books.{Contents}
use Rattle.fact_books.specs.Entries.{Told}
use Rattle.order_classes.specs.declared.rows.ClassRow.{ClassRow}
use Rattle.order_classes.specs.declared.rows.Totals.{Totals}
use Rattle.order_classes.specs.Letters.{letter_w, letter_d, letter_e, letter_n}
use Rattle.class_stretches.specs.declared.missing.Missing.{Missing}
use Rattle.book_stretches.specs.Telling.{Tells}
use Rattle.book_rows.specs.Classes.{told_alone}
use Rattle.book_rows.specs.declared.classed.BookClasses.{BookClasses}
use Rattle.order_classes.specs.Numbers.{IsNumberOf, IsLeastOf}

-- of the rank, which is one of the book's spec, the book tells an outcome of which this is so
abbrev pub IsToldWith : Contents → (Told → Type 0) → ℕ → Type 0
IsToldWith book IsSo r = (r < ranks book.file.run) × ((o : Told) × Tells book r o × IsSo o)

-- of the rank the book tells an outcome
abbrev pub IsTold : Contents → ℕ → Type 0
IsTold book r = (r < ranks book.file.run) × ((o : Told) × Tells book r o)

-- or tells none
abbrev pub IsMissing : Contents → ℕ → Type 0
IsMissing book r = (r < ranks book.file.run) × ((o : Told) → Tells book r o → ⊥)

-- none is told to be missing where none is; else so many as are, and the least of them
abbrev pub AreMissingTold : Contents → Option Missing → Type 0
AreMissingTold book None = (r : ℕ) → IsMissing book r → ⊥
AreMissingTold book (Some missing) = IsNumberOf (IsMissing book) missing.ranks × IsLeastOf (IsMissing book) missing.first

-- so many orders are told to have an outcome, and so many of them to have a letter, as have and do
pub record AreTotalsTold (book : Contents) (t : Totals) : Type 0 where
  pub all : IsNumberOf (IsTold book) t.all.orders
  pub waits : IsNumberOf (IsToldWith book (λ o. letter_w (told_alone o) ≡ true)) t.waits.orders
  pub deadlock : IsNumberOf (IsToldWith book (λ o. letter_d (told_alone o) ≡ true)) t.deadlock.orders
  pub error : IsNumberOf (IsToldWith book (λ o. letter_e (told_alone o) ≡ true)) t.error.orders
  pub unsent : IsNumberOf (IsToldWith book (λ o. letter_n (told_alone o) ≡ true)) t.unsent.orders

-- a class is told of all orders of which the book tells its outcome
pub record IsRowTold (book : Contents) (row : ClassRow) : Type 0 where
  pub count : IsNumberOf (IsToldWith book (λ o. o ≡ row.shows.told)) row.count
  pub least : IsLeastOf (IsToldWith book (λ o. o ≡ row.shows.told)) row.least

-- all of it
pub record AreTold (book : Contents) (x : BookClasses) : Type 0 where
  pub missing : AreMissingTold book x.missing
  pub totals : AreTotalsTold book x.totals
  pub rows : All (IsRowTold book) x.rows.items
