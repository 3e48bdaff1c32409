use Rattle.std.proofs.Common.{sym, subst}
use Rattle.bound_specs.specs.Binding.{IsFileOf}
use Rattle.spec_binding.specs.SpecFiles.{IsMemory}
use Rattle.book_files.proofs.BookLaws.{spec-told}
use Rattle.book_files.proofs.spec_of_text.spec_of_text.Goals as goal

pub returns-in-Err : goal.returns-in-Err
returns-in-Err c =
    spec-told c.args.text.now c.told_of.result (IsMemory c.in-Err.fault)
    (λ file is. c.in-Err.ensures.complete file (subst (λ text. IsFileOf text file) (sym c.as_bytes.ensures.value) is)) c.told_of.ensures
