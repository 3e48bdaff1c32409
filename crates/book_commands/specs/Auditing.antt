-- What the program writes for the audit of a book.
use Rattle.std.specs.Prelude.{◌≡◌, ℕ, ◌++◌, List, codes, Option, Some, None, Result, Ok, Err, ⊤}
use Rattle.transcripts.specs.Counted.{Wrote, Stopped}
use Rattle.transcripts.specs.declared.counted.Counted.{Counted}
use Rattle.fact_books.specs.Books.{Contents}
use Rattle.book_audit.specs.Audit.{IsAudit}
use Rattle.book_audit.specs.declared.error.AuditError.{AuditError}
use Rattle.book_audit.specs.declared.error.AuditError.TheVariants.{False}
use Rattle.transcripts.specs.Lines.{number_line}
use Rattle.book_commands.specs.declared.finding.Finding.{Finding}
use Rattle.book_commands.specs.declared.finding.Finding.TheVariants.{Good, Bad}
use Rattle.book_commands.specs.declared.auditing.AuditFault.{AuditFault}
use Rattle.book_commands.specs.declared.auditing.AuditFault.TheVariants.{File, NoMemory, Write}
use Rattle.book_commands.specs.Joining.{IsFileBook}

-- an audit's answer, by the least rank with a false fact, if there is one
abbrev pub answer_of : Option ℕ → Result ⊤ AuditError
answer_of None = Ok tt
answer_of (Some rank) = Err (False rank)

abbrev pub audit_text : Option ℕ → List ℕ
audit_text None = codes "true\n"
audit_text (Some rank) = codes "false at rank " ++ number_line rank

-- a false fact is amiss
abbrev pub finding_of : Option ℕ → Finding
finding_of None = Good
finding_of (Some rank) = Bad

-- the file's book is audited so
pub record IsAuditOf (bytes : Option (List ℕ)) (least : Option ℕ) : Type 0 where
  pub book : Contents
  pub is_book : IsFileBook bytes (Ok book)
  pub audit : IsAudit book (answer_of least)

-- what the audit of the file's book tells is written, or a front of it; or nothing, where the file is no book or memory runs out
abbrev pub IsAuditRun : Option (List ℕ) → {W : Type 0} → (W → Option (List ℕ)) → Counted W → Counted W → Result Finding AuditFault → Type 0
IsAuditRun bytes contents old new (Ok finding) =
    (least : Option ℕ) × IsAuditOf bytes least × (finding ≡ finding_of least) × Wrote contents old new (audit_text least)
IsAuditRun bytes contents old new (Err (File fault)) = (new ≡ old) × IsFileBook bytes (Err fault)
IsAuditRun bytes contents old new (Err NoMemory) = (new ≡ old) × ((book : Contents) × IsFileBook bytes (Ok book))
IsAuditRun bytes contents old new (Err (Write fault)) = (least : Option ℕ) × IsAuditOf bytes least × Stopped contents old new (audit_text least)
