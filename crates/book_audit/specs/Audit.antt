-- What an audit of a book tells: that each of its facts is true, or the least rank with one that is not.
use Rattle.std.specs.Prelude.{◌≡◌, ℕ, ◌<◌, true, Result, Ok, Err, ⊤}
use Rattle.bound_specs.specs.Spec.{Spec}
use Rattle.rank_facts.specs.Facts.{IsTrueAt}
use Rattle.rank_facts.specs.Values.{Facts, AllTrue}
use Rattle.rank_facts.specs.declared.fact.Fact.{Fact}
use Rattle.fact_books.specs.Entries.{recorded}
use Rattle.fact_books.specs.Books.{Contents}
use Rattle.book_audit.specs.declared.error.AuditError.{AuditError}
use Rattle.book_audit.specs.declared.error.AuditError.TheVariants.{False, NoMemory}

-- the rank has a fact that is not true
abbrev pub HasFalse : Spec → Facts → ℕ → Type 0
HasFalse spec has r = (fact : Fact) × (has r fact ≡ true) × (IsTrueAt spec r fact → ⊥)

-- this rank has a fact that is not true, and no lower one has
abbrev pub IsLeastFalse : Spec → Facts → ℕ → Type 0
IsLeastFalse spec has r = HasFalse spec has r × ((m : ℕ) → m < r → HasFalse spec has m → ⊥)

-- each fact of the book is true, or this is the least rank with a false one, unless memory ran out
abbrev pub IsAudit : Contents → Result ⊤ AuditError → Type 0
IsAudit book (Ok done) = AllTrue book.file.run (recorded book.facts)
IsAudit book (Err (False r)) = IsLeastFalse book.file.run (recorded book.facts) r
IsAudit book (Err NoMemory) = Unit {0}
